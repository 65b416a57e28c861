-- `window_lists::refusals::refusal` meets its contract: one party after another is tested, then what is left.
use Prim.Native.Nat.{◌*◌, ◌≤◌}
use mathlib.Core.Path.{◌≡◌}
use Rattle.std.specs.Prelude.{Ok}
use Rattle.window_lists.specs.Windows.{party_place}
use Rattle.window_lists.specs.WindowRefusals.{parties_refusal}
use Rattle.window_lists.proofs.refusals.refusal.Given as goal

abbrev pub invariant-loop-k : goal.invariant-loop-k
invariant-loop-k l = (l.k ≤ l.parties) × (l.place ≤ 131071 * l.k) × (l.place ≡ party_place l.list l.k) × (Ok tt ≡ parties_refusal l.list l.k)
