-- `tables::fill` meets its contract: the square is filled row by row, and the place goes on by as many numbers as each pair has.
use Prim.Native.Nat.{◌+◌, ◌*◌, ◌≤◌}
use mathlib.Core.Path.{◌≡◌}
use Rattle.grid.proofs.Filling.{Part, RowPart}
use Rattle.tables.proofs.Filling.{spread_over}
use Rattle.tables.proofs.quantities.fill.Given as goal

abbrev pub invariant-loop-j : goal.invariant-loop-j
invariant-loop-j l = (l.j ≤ l.columns)
    × ((l.place ≡ l.spread.first + l.each * (l.i * l.m + l.j)) × (l.place ≤ 6000000 + 6 * l.j))
    × RowPart (spread_over l.list l.spread.first l.each l.m) l.columns l.i l.j l.initial.into l.into

abbrev pub invariant-loop-i : goal.invariant-loop-i
invariant-loop-i l = (l.i ≤ l.rows) × Part l.initial.into (spread_over l.list l.spread.first l.each l.m) l.columns l.i 0 l.into
