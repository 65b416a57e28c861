-- `report::lent::kept_before` is safe and ends: its loop stays within the slice.
use Prim.Native.Nat.{◌-◌, ◌≤◌}
use lib.ListN.{length}
use Rattle.report.proofs.lent.kept_before.Given as goal

abbrev pub invariant-loop-kept : goal.invariant-loop-kept
invariant-loop-kept l = l.kept ≤ length l.s

abbrev pub decreases-loop-kept : goal.decreases-loop-kept
decreases-loop-kept l = length l.s - l.kept
