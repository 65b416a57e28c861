-- `report::lent::kept_numbers` is safe and ends: its loop stays within the list.
use Prim.Native.Nat.{◌-◌, ◌≤◌}
use Rattle.report.proofs.lent.kept_numbers.Given as goal

abbrev pub invariant-loop-k : goal.invariant-loop-k
invariant-loop-k l = l.k ≤ l.k-end
