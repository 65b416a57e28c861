-- `method::jumps::raised` meets its contract.
use Prim.Native.Nat.{◌≤◌}
use Rattle.method.proofs.JumpLaws.{Raising}
use Rattle.method.proofs.jumps.raised.Given as goal

abbrev pub invariant-loop-j : goal.invariant-loop-j
invariant-loop-j l = (l.j ≤ l.fn.sides.pilots) × Raising l.initial.price l.price l.marks l.j l.x
