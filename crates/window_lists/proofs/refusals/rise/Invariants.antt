-- `window_lists::refusals::rise` meets its contract: one window after another is tested.
use Prim.Native.Nat.{◌≤◌}
use mathlib.Core.Path.{◌≡◌}
use Rattle.grid.specs.Every.{every}
use Rattle.window_lists.specs.WindowRefusals.{closed_before, window_passes}
use Rattle.window_lists.proofs.refusals.rise.Given as goal

abbrev pub invariant-loop-w : goal.invariant-loop-w
invariant-loop-w l = (l.w ≤ l.count) × (l.ok ≡ every (window_passes l.list l.place) l.w) × (l.closed ≡ closed_before l.list l.place l.w)
