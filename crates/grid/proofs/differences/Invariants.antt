-- `grid::differences` meets its contract: the square is filled row by row.
use Prim.Native.Nat.{◌-◌, ◌≤◌}
use Rattle.grid.specs.Grid.{at}
use Rattle.grid.proofs.Filling.{Part, RowPart}
use Rattle.grid.proofs.differences.Given as goal

abbrev pub invariant-loop-j : goal.invariant-loop-j
invariant-loop-j l = (l.j ≤ l.width) × RowPart (λ a b. at l.one a b - at l.other a b) l.width l.i l.j l.initial.q l.q

abbrev pub invariant-loop-i : goal.invariant-loop-i
invariant-loop-i l = (l.i ≤ l.height) × Part l.initial.q (λ a b. at l.one a b - at l.other a b) l.width l.i 0 l.q
