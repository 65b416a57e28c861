-- `layouts::squeezing::squeeze` meets its contract: after k turns the bytes that are left, squeezed from here on, make the whole.
use Prim.Native.Nat.{◌≤◌}
use mathlib.Core.Path.{◌≡◌}
use lib.ListN.{length}
use Rattle.layouts.proofs.SqueezingLaws.{Squeezing}
use Rattle.layouts.proofs.squeezing.squeeze.Given as goal

abbrev pub invariant-loop-b : goal.invariant-loop-b
invariant-loop-b l = (l.b-index-end ≡ length l.text) × (l.b-index ≤ length l.text) × Squeezing l.initial.page l.page l.text l.mode l.count l.b-index
