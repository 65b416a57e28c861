-- `window_lists::places::party_place` meets its contract: one party after another is passed over.
use Prim.Native.Nat.{◌*◌, ◌≤◌}
use mathlib.Core.Path.{◌≡◌}
use Rattle.window_lists.specs.Windows.{party_place}
use Rattle.window_lists.proofs.places.party_place.Given as goal

abbrev pub invariant-loop-k : goal.invariant-loop-k
invariant-loop-k l = (l.k ≤ l.party) × (l.place ≤ 131071 * l.k) × (l.place ≡ party_place l.list l.k)
