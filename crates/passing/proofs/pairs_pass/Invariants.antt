-- `passing::pairs_pass` meets its contract: whether the rows that were looked at pass. Assumes nothing.
use mathlib.Core.Path.{◌≡◌}
use Prim.Native.Nat.{◌+◌, ◌*◌, ◌≤◌}
use Rattle.grid.specs.Every.{every}
use Rattle.passing.specs.Passes.{row_passes}
use Rattle.passing.proofs.pairs_pass.Given as goal

abbrev pub invariant-loop-i : goal.invariant-loop-i
invariant-loop-i l = (l.i ≤ l.growers)
    × (l.from ≡ 3 + l.growers + l.pilots + 5 * (l.i * l.pilots))
    × (l.pass ≡ every (λ p. row_passes l.list l.growers l.pilots p (3 + l.growers + l.pilots + 5 * (p * l.pilots))) l.i)
