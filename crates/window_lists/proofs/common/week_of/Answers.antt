-- `window_lists::common::week_of` meets its contract: one window after another is marked.
use native.Mathlib.Omega.{arith}
use Rattle.window_lists.proofs.WindowLaws.{marks_none, marks_more}
use Rattle.window_lists.proofs.common.week_of.Goals as goal

pub loop-w-init : goal.loop-w-init
loop-w-init c = (omega arith, marks_none _ _ c.no_hours-marked.result c.no_hours-marked.ensures)

pub loop-w-preserved : goal.loop-w-preserved
loop-w-preserved c = let window = c.window_at-window.ensures in
    let list = c.args.list.now in (
      omega arith,
      marks_more list c.party_place-place.result c.loop-w.w _ _ c.loop-w.marked c.with_stretch-more.result window.first_value window.closing_value
          c.loop-w.invariant.1 c.with_stretch-more.ensures,
    )
