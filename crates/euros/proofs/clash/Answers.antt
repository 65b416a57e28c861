-- `euros::clash` meets its contract: the place that the chain finds is the first.
use Rattle.std.proofs.Common.{rules, ◌≡◌, ◌+◌, ◌%◌, true, false, ℕ, Bool, take}
use mathlib.Core.Path.{◌∙◌}
use borrow.Author.Tests.{tests}
use Rattle.std.specs.Prelude.{eqb}
use Rattle.std.proofs.lemmas.Iterator.{IsFirst-from_position, YieldsList-from_slice}
use Rattle.euros.proofs.Places.{first_of}
use Rattle.euros.proofs.clash.Goals as goal

pub returns : goal.returns
returns c =
    let a = c.args in
    let whole : ℕ → Bool = λ x. eqb ((x + a.shift) % 18) 0 in
    let found = IsFirst-from_position _ _ _ (λ x. whole x ≡ true) (λ x. whole x ≡ false) c.position.ensures.ran
    (YieldsList-from_slice (take a.pilots a.price) cc) (λ x q k. search (rules, tests)) (λ x q k. search (rules, tests)) in
    c.unwrap_or.ensures ∙ first_of whole a.price a.pilots (search rules) _ found
