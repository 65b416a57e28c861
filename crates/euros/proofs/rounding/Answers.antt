-- `euros::rounding` meets its contract: the number that the chain finds is the first.
use Rattle.std.proofs.Common.{rules, ◌≡◌, true, false}
use mathlib.Core.Path.{◌∙◌}
use borrow.Author.Tests.{tests}
use Rattle.std.proofs.lemmas.Iterator.{first_from_Range}
use Rattle.euros.specs.Euros.{none_whole}
use Rattle.euros.proofs.Places.{first_below}
use Rattle.euros.proofs.rounding.Goals as goal

pub returns : goal.returns
returns c =
    let a = c.args in
    let none = none_whole a.price c.within-end.result in
    let found = first_from_Range _ _ _ _ (λ x. none x ≡ true) (λ x. none x ≡ false) c.find.ensures.ran
    (λ x q k. search (rules, tests)) (λ x q k. search (rules, tests)) in
    rw (← c.within-end.ensures.0) (c.unwrap_or.ensures ∙ first_below none 17 _ found)
