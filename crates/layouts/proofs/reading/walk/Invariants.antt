-- `layouts::reading::walk` meets its contract: after k turns the numbers that are left, read from here on, make the whole.
use Prim.Native.Nat.{◌≤◌}
use mathlib.Core.Path.{◌≡◌}
use lib.ListN.{length}
use Rattle.layouts.proofs.WalkLaws.{Walking}
use Rattle.layouts.proofs.reading.walk.Given as goal

abbrev pub invariant-loop-k : goal.invariant-loop-k
invariant-loop-k l = (l.k ≤ 65536) × Walking l.layout l.text l.list l.at l.k × (length l.list ≡ length l.initial.list)
