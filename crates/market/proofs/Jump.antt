-- The jump keeps the invariant, and leaves less to do.
-- Assumes nothing.
use Prim.Native.Nat.{ℕ, suc, ◌+◌, ◌-◌, ◌≤◌, ◌<◌}
use mathlib.Core.Bool.{Bool, true, false}
use mathlib.Core.Path.{◌≡◌, refl}
use mathlib.Core.Logic.{◌⊎◌, inl, inr, ⊎_elim}
use native.Mathlib.Nat.{le_refl, mul-le-mul_right}
use native.Mathlib.Omega.{arith}
use Rattle.market.specs.declared.Deal.{Deal}
use Rattle.market.specs.declared.Deal.TheVariants.{Tariff, Free}
use Rattle.market.specs.Market.{Ticket, cap}
use Rattle.market.specs.Method.{Held, Slot, by_tariff, old_free, new_free, hours_of, offer, worth, Fair, PilotLaw, Core, Invariant}
use Rattle.market.specs.Steps.{Jump, to_do, measure}
use Rattle.grid.proofs.Sums.{sum_lt}
use Rattle.market.proofs.Deals.{offer_le, filled_le}
use Rattle.market.proofs.Steps.{Covered, grower_keeps, fair_at, worth-at, pilot-same}
use Rattle.market.proofs.Measure.{lates_le}

module _ {t : Ticket} {chosen : ℕ → Bool} {x : ℕ} {price price' : ℕ → ℕ} {held : Held} {low : ℕ → ℕ} {top : ℕ}
    (jump : Jump t chosen x price price' held low top) where
  -- a pilot is chosen, and his price rises, or it stays
  abbrev Risen : ℕ → Type 0
  Risen j = (chosen j ≡ true) × (price' j ≡ price j + x)

  abbrev Kept : ℕ → Type 0
  Kept j = (chosen j ≡ false) × (price' j ≡ price j)

  either : (j : ℕ) → j < t.pilots → Risen j ⊎ Kept j
  either j hj = go (chosen j) refl
    where
      go : (b : Bool) → chosen j ≡ b → Risen j ⊎ Kept j
      go true e = inl (e, jump.prices.risen j hj e)
      go false e = inr (e, jump.prices.kept j hj e)

  no_lower : (j : ℕ) → j < t.pilots → price j ≤ price' j
  no_lower j hj = ⊎_elim (λ up. omega arith) (λ kept. omega arith) (either j hj)

  jump_fair : (q : Slot) (i j : ℕ) → i < t.growers → j < t.pilots → 0 < held q i j → Fair t price q i j → Risen j ⊎ Kept j →
      Fair t price' q i j
  jump_fair by_tariff i j hi hj h f (inl up) = omega (arith, (jump.pilot j hj up.0).tariff i hi h)
  jump_fair old_free i j hi hj h f (inl up) = omega (arith, (jump.grower i hi).old j hj up.0 h, (jump.grower i hi).standby)
  jump_fair new_free i j hi hj h f (inl up) = omega (arith, (jump.grower i hi).new j hj up.0 h, (jump.grower i hi).standby)
  jump_fair q i j hi hj h f (inr kept) = fair_at t price price' q i j kept.1 f

  -- An hour worth w that falls by x, and is not below low: it is overtaken by no deal that did not offer more before.
  overtaken : (w i : ℕ) → i < t.growers → low i ≤ w → (d : Deal) (l : ℕ) → l < t.pilots → Risen l ⊎ Kept l →
      hours_of held d i l < cap t d i l → w - x < offer t price' d i l → w < offer t price d i l
  overtaken w i hi above Tariff l hl at room h =
      absurd (omega (arith, (jump.grower i hi).tariff l hl room, offer_le t price price' Tariff i l (no_lower l hl)))
  overtaken w i hi above Free l hl (inl up) room h = omega (arith, (jump.grower i hi).standby)
  overtaken w i hi above Free l hl (inr kept) room h = absurd (omega (arith, (jump.grower i hi).free l hl kept.0 room))

  module _ (core : Core t price held) (q : Slot) (i j : ℕ) (hi : i < t.growers) (hj : j < t.pilots) (h : 0 < held q i j) where
    covered : ((d : Deal) (l : ℕ) → l < t.pilots → hours_of held d i l < cap t d i l → worth t price' q i j < offer t price' d i l →
        worth t price q i j < offer t price d i l) → Covered t price price' held held i (worth t price' q i j)
    covered was = (
      worth t price q i j,
      (core.grower i hi).better_first q j hj h,
      λ d l hl. filled_le t price price' held held _ _ d i l ((core.pair i l hi hl).within_cap d) (le_refl _) (was d l hl),
    )

    same-worth : worth t price' q i j ≡ worth t price q i j → Covered t price price' held held i (worth t price' q i j)
    same-worth e = covered (λ d l hl room above. omega (arith, offer_le t price price' d i l (no_lower l hl)))

    less_worth : worth t price' q i j ≡ worth t price q i j - x → low i ≤ worth t price q i j →
        Covered t price price' held held i (worth t price' q i j)
    less_worth e enough = covered (λ d l hl room above. overtaken (worth t price q i j) i hi enough d l hl (either l hl) room (omega arith))

  jump_covered : Core t price held → (q : Slot) (i j : ℕ) → i < t.growers → j < t.pilots → 0 < held q i j → Risen j ⊎ Kept j →
      Covered t price price' held held i (worth t price' q i j)
  jump_covered core by_tariff i j hi hj h at = same-worth core by_tariff i j hi hj h refl
  jump_covered core old_free i j hi hj h (inl up) =
      less_worth core old_free i j hi hj h (omega arith) ((jump.grower i hi).old j hj up.0 h)
  jump_covered core new_free i j hi hj h (inl up) =
      less_worth core new_free i j hi hj h (omega arith) ((jump.grower i hi).new j hj up.0 h)
  jump_covered core old_free i j hi hj h (inr kept) = same-worth core old_free i j hi hj h (worth-at t price price' old_free i j kept.1)
  jump_covered core new_free i j hi hj h (inr kept) = same-worth core new_free i j hi hj h (worth-at t price price' new_free i j kept.1)

  jump_pilot : (j : ℕ) → j < t.pilots → PilotLaw t price held j → Risen j ⊎ Kept j → PilotLaw t price' held j
  jump_pilot j hj p (inl up) =
      record { floor = omega (arith, p.floor); within_hours = p.within_hours; full = λ h. omega (arith, (jump.pilot j hj up.0).full) }
  jump_pilot j hj p (inr kept) = pilot-same kept.1 refl p

  pub step_jump : Invariant t price held → Invariant t price' held
  step_jump inv = record {
    core = record {
      pair = λ i j hi hj. record {
        within_cap = (inv.core.pair i j hi hj).within_cap;
        fair = λ q h. jump_fair q i j hi hj h ((inv.core.pair i j hi hj).fair q h) (either j hj);
      };
      grower = λ i hi. grower_keeps price' held hi inv.core
          (λ d j hj. le_refl _)
          (λ q j hj h. jump_covered inv.core q i j hi hj h (either j hj));
    };
    pilot = λ j hj. jump_pilot j hj (inv.pilot j hj) (either j hj);
  }

  risen_falls : 0 < x → (j : ℕ) → j < t.pilots → Risen j → to_do t price' held top j < to_do t price held top j
  risen_falls pos j hj up =
      let at = jump.pilot j hj up.0 in
      let rest : top - price j ≡ (top - price' j) + x = omega (arith, at.below) in
      rw rest (omega (arith, lates_le t price' held j, at.full, mul-le-mul_right (suc (t.pilot_hours j)) pos))

  never_more : 0 < x → (j : ℕ) → j < t.pilots → Risen j ⊎ Kept j → to_do t price' held top j ≤ to_do t price held top j
  never_more pos j hj (inl up) = omega (arith, risen_falls pos j hj up)
  never_more pos j hj (inr kept) = rw kept.1 (le_refl _)

  -- if a pilot is chosen at all
  pub jump_falls : 0 < x → (j : ℕ) → j < t.pilots → chosen j ≡ true → measure t price' held top < measure t price held top
  jump_falls pos j hj is = sum_lt (to_do t price' held top) (to_do t price held top) t.pilots j
      (λ l hl. never_more pos l hl (either l hl)) hj (risen_falls pos j hj (is, jump.prices.risen j hj is))
