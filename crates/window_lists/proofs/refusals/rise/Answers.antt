-- `window_lists::refusals::rise` meets its contract: one window after another is tested.
use mathlib.Core.Path.{refl, sym, ◌∙◌}
use native.Mathlib.Omega.{arith}
use Rattle.grid.proofs.EveryLaws.{every-none, every_turn}
use Rattle.window_lists.proofs.WindowLaws.{closed_more, window_test}
use Rattle.window_lists.proofs.refusals.rise.Goals as goal

pub loop-w-init : goal.loop-w-init
loop-w-init c = (omega arith, sym (every-none _), refl)

pub loop-w-preserved : goal.loop-w-preserved
loop-w-preserved c = let window = c.window_at-window.ensures in
    let a = c.args in (
      omega arith,
      every_turn _ _ _ _ c.loop-w.invariant.1
          (window_test a.list.now a.place c.loop-w.w _ _ _ _ window.first_value window.closing_value c.loop-w.invariant.2
          c.is_in_week.ensures),
      window.closing_value ∙ closed_more a.list.now a.place c.loop-w.w,
    )
