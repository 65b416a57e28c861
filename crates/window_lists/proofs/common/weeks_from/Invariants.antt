-- `window_lists::common::weeks_from` meets its contract: one party after another.
use Prim.Native.Nat.{◌≤◌}
use mathlib.Core.Path.{◌≡◌}
use lib.ListN.{length}
use Rattle.window_lists.specs.Windows.{WeeksOf}
use Rattle.window_lists.proofs.common.weeks_from.Given as goal

abbrev pub invariant-loop-k : goal.invariant-loop-k
invariant-loop-k l = (l.k ≤ l.count) × (length l.weeks ≡ 16) × WeeksOf l.list l.party l.k l.weeks
