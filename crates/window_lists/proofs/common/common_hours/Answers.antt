-- `window_lists::common::common_hours` meets its contract: the square is filled row by row.
use native.Mathlib.Omega.{arith}
use Rattle.grid.proofs.Filling.{part-put, part_row}
use Rattle.window_lists.proofs.WindowLaws.{common_of}
use Rattle.window_lists.proofs.common.common_hours.Goals as goal

pub loop-j-preserved : goal.loop-j-preserved
loop-j-preserved c = let a = c.args in
    let height = c.within-rows.ensures.1 in
    let width = c.within-columns.ensures.1 in
    let same =
    common_of a.list.now a.growers c.from-3.result c.within-rows.result
    c.within-columns.result c.weeks_from-grower_weeks.result c.weeks_from-pilot_weeks.result
    c.loop-i.i c.loop-j.j c.common.result c.from-3.ensures c.weeks_from-grower_weeks.ensures
    c.weeks_from-pilot_weeks.ensures (omega arith) (omega arith) c.common.ensures in (
      omega arith,
      λ before p. part-put _ _ _ _ _ _ _ (omega (arith, height)) (omega arith) (omega (arith, width)) (omega arith) same
          (c.loop-j.invariant.1 before p),
    )

pub loop-i-preserved : goal.loop-i-preserved
loop-i-preserved c = (
  omega arith,
  part_row _ _ _ _ _ _ (omega arith) (omega arith)
      (c.loop-j.invariant.1 _ c.loop-i.invariant.1),
)
