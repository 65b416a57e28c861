-- `window_lists::places::party_place` meets its contract: one party after another is passed over.
use mathlib.Core.Path.{◌∙◌}
use native.Mathlib.Omega.{arith}
use Rattle.window_lists.proofs.WindowLaws.{place_none, place_more}
use Rattle.window_lists.proofs.places.party_place.Goals as goal

pub loop-k-init : goal.loop-k-init
loop-k-init c = (omega arith, omega arith, place_none _)

pub loop-k-preserved : goal.loop-k-preserved
loop-k-preserved c = (
  omega arith,
  omega arith,
  c.next_place-place.ensures.0 ∙ place_more _ _ _ c.loop-k.invariant.2,
)
