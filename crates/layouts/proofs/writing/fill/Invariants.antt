-- `layouts::writing::fill` meets its contract: after k turns the text of the first k numbers stands in the page.
use Prim.Native.Nat.{◌≤◌}
use Rattle.layouts.proofs.WritingLaws.{Filling}
use Rattle.layouts.proofs.writing.fill.Given as goal

abbrev pub invariant-loop-k : goal.invariant-loop-k
invariant-loop-k l = (l.k ≤ l.k-end) × Filling l.initial.page l.page l.layout l.list l.at l.k
