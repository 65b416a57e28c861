-- `window_lists::common::common_hours` meets its contract: the square is filled row by row.
use Prim.Native.Nat.{◌≤◌}
use Rattle.grid.proofs.Filling.{Part, RowPart}
use Rattle.window_lists.specs.Windows.{common_hours}
use Rattle.window_lists.proofs.common.common_hours.Given as goal

abbrev pub invariant-loop-j : goal.invariant-loop-j
invariant-loop-j l = (l.j ≤ l.columns) × RowPart (common_hours l.list l.growers) l.columns l.i l.j l.initial.square l.square

abbrev pub invariant-loop-i : goal.invariant-loop-i
invariant-loop-i l = (l.i ≤ l.rows) × Part l.initial.square (common_hours l.list l.growers) l.columns l.i 0 l.square
