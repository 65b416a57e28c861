-- `layouts::squeezing::line_of` meets its contract: after j turns the byte that is looked for has not been met.
use Prim.Native.Nat.{◌≤◌}
use mathlib.Core.Path.{◌≡◌}
use lib.ListN.{length}
use Rattle.layouts.proofs.LineLaws.{Counting}
use Rattle.layouts.proofs.squeezing.line_of.Given as goal

abbrev pub invariant-loop-b : goal.invariant-loop-b
invariant-loop-b l = (l.b-index-end ≡ length l.text) × (l.b-index ≤ length l.text) × Counting l.text l.k l.mode l.line l.left l.b-index
