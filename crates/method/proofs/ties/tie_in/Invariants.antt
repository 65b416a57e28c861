-- `method::ties::tie_in` meets its contract.
use Prim.Native.Nat.{◌≤◌}
use Rattle.method.proofs.ties.tie_in.Given as goal

abbrev pub invariant-loop-j : goal.invariant-loop-j
invariant-loop-j l = l.j ≤ l.fn.sides.pilots
