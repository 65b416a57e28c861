-- `tables::fill` meets its contract: the square is filled row by row, and the place goes on by as many numbers as each pair has.
use native.Mathlib.Omega.{arith}
use Rattle.grid.proofs.Squares.{square_is}
use Rattle.grid.proofs.Filling.{part-start, part-put, part_row}
use Rattle.tables.proofs.Filling.{next_place}
use Rattle.tables.proofs.quantities.fill.Goals as goal

pub loop-i-init : goal.loop-i-init
loop-i-init c = let copy = c.copied-before in
    (omega arith, part-start _ _ _ (rw copy.ensures at (square_is copy.result _ copy.type_inv)))

pub loop-j-preserved : goal.loop-j-preserved
loop-j-preserved c = let row = c.loop-j.invariant in
    let there = rw row.1.0 at c.entry.ensures in (
      omega arith,
      (next_place _ _ _ _ _ row.1.0, omega arith),
      λ before p. part-put _ _ _ _ _ _ _ (omega arith) (omega arith) (omega arith) (omega arith) there (row.2 before p),
    )

pub loop-i-preserved : goal.loop-i-preserved
loop-i-preserved c = let row = c.loop-j.invariant.2 in
    (omega arith, part_row _ _ _ _ _ _ (omega arith) (omega arith) (row _ c.loop-i.invariant.1))
