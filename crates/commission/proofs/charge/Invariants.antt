-- `commission::charge` meets its contract: the invariant is `Charging`: what is charged so far, and what the bands that are left
-- charge, make the whole.
use Prim.Native.Nat.{◌*◌, ◌≤◌}
use Rattle.commission.proofs.Charging.{Charging}
use Rattle.commission.proofs.charge.Given as goal

abbrev pub invariant-loop-k : goal.invariant-loop-k
invariant-loop-k l = (l.k ≤ l.k-end) × Charging l.bands l.x l.low l.total (2 * l.k)
