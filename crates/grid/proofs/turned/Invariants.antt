-- `grid::turned` meets its contract: the square is filled row by row.
use Prim.Native.Nat.{◌≤◌}
use Rattle.grid.specs.Grid.{at}
use Rattle.grid.proofs.Filling.{Part, RowPart}
use Rattle.grid.proofs.turned.Given as goal

abbrev pub invariant-loop-i : goal.invariant-loop-i
invariant-loop-i l = (l.i ≤ l.width) × RowPart (λ b a. at l.sq a b) l.width l.j l.i l.initial.q l.q

abbrev pub invariant-loop-j : goal.invariant-loop-j
invariant-loop-j l = (l.j ≤ l.height) × Part l.initial.q (λ b a. at l.sq a b) l.width l.j 0 l.q
