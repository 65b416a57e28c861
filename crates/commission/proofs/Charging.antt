-- Charging band by band: what is charged so far, and what the bands that are left charge, make the whole.
-- Assumes nothing.
use mathlib.Core.Path.{◌≡◌, refl, ap, ◌∙◌}
use mathlib.Core.List.{List, [], ◌∷◌}
use Prim.Native.Nat.{ℕ, suc, ◌+◌, ◌*◌, ◌≤◌, ◌<◌, min, max}
use native.Mathlib.Omega.{arith}
use lib.ListN.{length, get_or, drop, length-drop, drop_of_length-le}
use lib.Seq.{drop-cons}
use Rattle.commission.specs.Bands.{charged_between, charged_from, charged}
use Rattle.commission.proofs.BandLaws.{charged-at_most}

from_short : (low : ℕ) (bands : List ℕ) (x : ℕ) → length bands < 2 → charged_from low bands x ≡ 0
unfolding charged_from
from_short low [] x h = refl
from_short low (bound ∷ []) x h = refl
from_short low (bound ∷ rate ∷ rest) x h = absurd (omega arith)

from_last : (low bound rate x : ℕ) → charged_from low (bound ∷ rate ∷ []) x ≡ charged_between low x rate
unfolding charged_from
from_last low bound rate x = refl

from_more : (low bound rate : ℕ) (rest : List ℕ) (x : ℕ) → 0 < length rest →
    charged_from low (bound ∷ rate ∷ rest) x ≡ charged_between low (min x (max low bound)) rate + charged_from (max low bound) rest x
unfolding charged_from
from_more low bound rate [] x h = absurd (omega arith)
from_more low bound rate (next ∷ rest) x h = refl

-- Before the band at a place.
pub record Charging (bands : List ℕ) (x low total at : ℕ) : Type 0 where
  pub same : charged bands x ≡ total + charged_from low (drop at bands) x

pub charging_starts : (bands : List ℕ) (x : ℕ) → Charging bands x 0 0 0
charging_starts bands x = record { same = omega arith }

module _ {bands : List ℕ} {x low total at : ℕ} (c : Charging bands x low total at) where
  at_band : at + 1 < length bands →
      charged bands x ≡ total + charged_from low (get_or bands at 0 ∷ get_or bands (at + 1) 0 ∷ drop (at + 2) bands) x
  at_band h =
      let e : at + 1 ≡ suc at = omega arith in
      let f : at + 2 ≡ suc (suc at) = omega arith in
      c.same ∙ rw (e, f, drop-cons bands at 0 (omega arith), drop-cons bands (suc at) 0 (omega arith))

  -- past the last band
  pub charging_ends : length bands < at + 2 → (total ≡ charged bands x) × (total ≤ 1000 * x)
  charging_ends h =
      omega (arith, c.same, from_short low (drop at bands) x (omega (arith, length-drop at bands)), charged-at_most bands x)

  -- the part that is charged here, on the cents between two numbers
  module _ {part from to rate : ℕ} (p : part ≡ charged_between from to rate) (f : from ≡ low) (r : rate ≡ get_or bands (at + 1) 0) where
    -- the last band has no end
    pub charging_last : at + 2 ≡ length bands → to ≡ x → (total + part ≡ charged bands x) × (total + part ≤ 1000 * x)
    charging_last h t =
        let e = rw (drop_of_length-le bands {i = at + 2} (omega arith)) at (at_band (omega arith)) in
        let q : part ≡ charged_between low x (get_or bands (at + 1) 0) = rw (p, f, t, r) in
        omega (arith, e, q, from_last low (get_or bands at 0) (get_or bands (at + 1) 0) x, charged-at_most bands x)

    -- another band ends at high
    module _ (high : ℕ) (h : at + 2 < length bands) (u : high ≡ max low (get_or bands at 0)) (t : to ≡ min x high) where
      whole : charged bands x ≡ total + (part + charged_from high (drop (at + 2) bands) x)
      whole =
          let rest = drop (at + 2) bands in
          let e = from_more low (get_or bands at 0) (get_or bands (at + 1) 0) rest x (omega (arith, length-drop (at + 2) bands)) in
          at_band (omega arith) ∙ rw (p, f, t, u, r) (ap (λ (s : ℕ). total + s) e)

      pub charging_turns : Charging bands x high (total + part) (at + 2)
      charging_turns = record { same = omega (arith, whole) }

      -- so the sum fits
      pub charging_fits : total + part ≤ 1000 * x
      charging_fits = omega (arith, whole, charged-at_most bands x)
