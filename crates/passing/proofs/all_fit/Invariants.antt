-- `passing::all_fit` meets its contract: whether the numbers that were looked at fit. Assumes nothing.
use mathlib.Core.Path.{◌≡◌}
use Prim.Native.Nat.{◌≤◌, ◌^◌}
use lib.Dec.{ltb}
use lib.ListN.{length, get_or}
use Rattle.grid.specs.Every.{every}
use Rattle.groups.specs.Groups.{groups}
use Rattle.passing.proofs.all_fit.Given as goal

abbrev pub invariant-loop-x : goal.invariant-loop-x
invariant-loop-x l = (l.x-index-end ≡ length l.list) × (l.x-index ≤ length l.list) × (l.pass ≡ every (λ p. ltb (get_or l.list p 0) (128 ^ groups)) l.x-index)
