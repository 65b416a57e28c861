-- `report::numbers` is safe and ends: its loop stays within the slice.
use Prim.Native.Nat.{◌-◌, ◌≤◌}
use Rattle.report.proofs.numbers.Given as goal

abbrev pub invariant-loop-k : goal.invariant-loop-k
invariant-loop-k l = l.k ≤ l.k-end
