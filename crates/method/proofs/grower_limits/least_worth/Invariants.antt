-- `method::grower_limits::least_worth` meets its contract.
use Prim.Native.Nat.{◌≤◌}
use Rattle.method.proofs.grower_limits.least_worth.Given as goal

abbrev pub invariant-loop-j : goal.invariant-loop-j
invariant-loop-j l = l.j ≤ l.fn.sides.pilots
