-- `window_lists::common::week_of` meets its contract: one window after another is marked.
use Prim.Native.Nat.{◌≤◌}
use Rattle.week.specs.Week.{covered, Marks}
use Rattle.window_lists.specs.Windows.{first_windows}
use Rattle.window_lists.proofs.common.week_of.Given as goal

abbrev pub invariant-loop-w : goal.invariant-loop-w
invariant-loop-w l = (l.w ≤ l.count) × Marks (covered (first_windows l.list l.place l.w)) l.marked
