-- `grid::turned` meets its contract: the square is filled row by row.
use mathlib.Core.Path.{refl}
use native.Mathlib.Omega.{arith}
use Rattle.grid.proofs.Squares.{square_is}
use Rattle.grid.proofs.Filling.{part-put, part_row}
use Rattle.grid.proofs.turned.Goals as goal

pub loop-i-preserved : goal.loop-i-preserved
loop-i-preserved c = let small = (square_is c.args.sq _ c.well_formed.0).small c.loop-i.i c.loop-j.j in (
  omega arith,
  λ before p. part-put _ _ _ _ _ _ _ (omega arith) (omega arith) (omega arith) small refl
      (c.loop-i.invariant.1 before p),
)

pub loop-j-preserved : goal.loop-j-preserved
loop-j-preserved c = (
  omega arith,
  part_row _ _ _ _ _ _ (omega arith) (omega arith)
      (c.loop-i.invariant.1 _ c.loop-j.invariant.1),
)
