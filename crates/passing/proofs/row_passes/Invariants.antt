-- `passing::row_passes` meets its contract: whether the pairs that were looked at pass. Assumes nothing.
use mathlib.Core.Path.{◌≡◌}
use Prim.Native.Nat.{◌+◌, ◌*◌, ◌≤◌}
use Rattle.passing.specs.Passes.{row_passes}
use Rattle.passing.proofs.row_passes.Given as goal

abbrev pub invariant-loop-j : goal.invariant-loop-j
invariant-loop-j l = (l.j ≤ l.pilots) × (l.at ≡ l.from + 5 * l.j) × (l.pass ≡ row_passes l.list l.growers l.j l.i l.from)
