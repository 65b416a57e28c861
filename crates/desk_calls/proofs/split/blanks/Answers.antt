-- `desk_calls::split::blanks` meets its contract: the place that the search finds, or the length.
use Rattle.std.proofs.Common.{rules, ℕ, Bool}
use Rattle.std.specs.Prelude.{not}
use Rattle.std.proofs.lemmas.Iterator.{YieldsList-from_slice}
use Rattle.std.proofs.lemmas.Iterator.Search.{position_from_yields_List}
use borrow.Author.Tests.{tests}
use Rattle.desk_calls.specs.Words.{blank}
use Rattle.desk_calls.proofs.WordLaws.{place_told}
use Rattle.desk_calls.proofs.split.blanks.Goals as goal

pub returns : goal.returns
returns c =
    let text = c.args.text.now in
    let test : ℕ → Bool = (λ b. not (blank b)) in
    place_told test text c.position.result _
    (position_from_yields_List test _ _ c.position.result c.position.ensures.ran (YieldsList-from_slice text cc) (λ x b q k. search (rules, tests)))
    c.unwrap_or.ensures
