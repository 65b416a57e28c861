-- `method::changes::age` meets its contract.
use Prim.Native.Nat.{◌≤◌}
use Rattle.method.specs.Changes.{Full, Aged}
use Rattle.method.proofs.changes.age.Given as goal

abbrev pub invariant-loop-i : goal.invariant-loop-i
invariant-loop-i l = (l.i ≤ l.fn.sides.growers) × Full l.next × Aged l.initial.next l.next l.j l.i
