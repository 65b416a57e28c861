-- `grid::differences` meets its contract: the square is filled row by row.
use native.Mathlib.Omega.{arith}
use Rattle.grid.proofs.Filling.{part-put, part_row}
use Rattle.grid.proofs.differences.Goals as goal

pub loop-j-preserved : goal.loop-j-preserved
loop-j-preserved c = let row = c.loop-j.invariant.1 in (
  omega arith,
  λ before p. part-put _ _ _ _ _ _ _ (omega arith) (omega arith) (omega arith) (omega arith) c.saturating_sub.ensures
      (row before p),
)

pub loop-i-preserved : goal.loop-i-preserved
loop-i-preserved c = (
  omega arith,
  part_row _ _ _ _ _ _ (omega arith) (omega arith)
      (c.loop-j.invariant.1 _ c.loop-i.invariant.1),
)
