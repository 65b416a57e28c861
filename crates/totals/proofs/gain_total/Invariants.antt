-- `totals::gain_total` meets its contract: pair by pair, each product below 2^32.
use Prim.Native.Nat.{ℕ, ◌+◌, ◌*◌, ◌-◌, ◌≤◌}
use mathlib.Core.Path.{◌≡◌}
use Rattle.grid.specs.Grid.{Grid, at}
use Rattle.grid.specs.Sum.{sum, sum_square}
use Rattle.totals.proofs.gain_total.Given as goal

-- what a pair adds
abbrev gain_of : Grid → Grid → ℕ → ℕ → ℕ
gain_of hours gain i j = at hours i j * at gain i j

abbrev pub invariant-loop-j : goal.invariant-loop-j
invariant-loop-j l = (l.j ≤ l.columns) ×
    (l.total ≤ 68719476736 * l.i + 4294967296 * l.j) ×
    (l.total ≡ sum_square (gain_of l.free_deal_hours l.joint_gain) l.i l.columns + sum (gain_of l.free_deal_hours l.joint_gain l.i) l.j)

abbrev pub invariant-loop-i : goal.invariant-loop-i
invariant-loop-i l = (l.i ≤ l.rows) × (l.total ≤ 68719476736 * l.i) ×
    (l.total ≡ sum_square (gain_of l.free_deal_hours l.joint_gain) l.i l.columns)
