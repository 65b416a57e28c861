-- What hours added at one place add to a deal, to a grower and to a pilot.
-- Assumes nothing.
use Prim.Native.Nat.{ℕ, ◌+◌, ◌≤◌, ◌<◌}
use mathlib.Core.Path.{◌≡◌, refl, ap₂}
use mathlib.Core.Logic.{◌≢◌}
use native.Mathlib.Omega.{arith}
use Rattle.market.specs.declared.Deal.{Deal}
use Rattle.market.specs.declared.Deal.TheVariants.{Tariff, Free}
use Rattle.market.specs.Market.{Ticket, sum_deals, used_by_grower, used_by_pilot}
use Rattle.market.specs.Method.{Held, Slot, by_tariff, old_free, new_free, hours_of, deal_of}
use Rattle.market.specs.Steps.{SameExcept, here, same, Added}
use Rattle.grid.proofs.Sums.{sum_same, sum_one}

pub elsewhere : {A : Type 0} {f g : A → ℕ → ℕ → ℕ} {a b : A} {i j k l : ℕ} → SameExcept f g a i j b k l →
    (b ≡ a → k ≡ i → l ≡ j → ⊥) → g b k l ≡ f b k l
elsewhere here ne = absurd (ne refl refl refl)
elsewhere (same e) ne = e

pub never_less : {A : Type 0} {f g : A → ℕ → ℕ → ℕ} {a : A} {i j x : ℕ} → Added f g a i j x → (b : A) (k l : ℕ) → f b k l ≤ g b k l
never_less {A} {f} {g} {a} {i} {j} plus b k l = go (plus.rest b k l)
  where
    go : {b : A} {k l : ℕ} → SameExcept f g a i j b k l → f b k l ≤ g b k l
    go here = omega (arith, plus.there)
    go (same e) = omega arith

module _ {held held' : Held} {i j : ℕ} where
  -- a change in one slot leaves another as it is
  new_beside_old : {k l : ℕ} → SameExcept held held' old_free i j new_free k l → held' new_free k l ≡ held new_free k l
  new_beside_old (same e) = e

  old_beside_new : {k l : ℕ} → SameExcept held held' new_free i j old_free k l → held' old_free k l ≡ held old_free k l
  old_beside_new (same e) = e

  pub old_beside_tariff : {k l : ℕ} → SameExcept held held' by_tariff i j old_free k l → held' old_free k l ≡ held old_free k l
  old_beside_tariff (same e) = e

  pub tariff_beside_old : {k l : ℕ} → SameExcept held held' old_free i j by_tariff k l → held' by_tariff k l ≡ held by_tariff k l
  tariff_beside_old (same e) = e

  -- a deal is as before, unless the change is in one of its slots
  tariff_same : {q : Slot} {k l : ℕ} → SameExcept held held' q i j by_tariff k l →
      SameExcept (hours_of held) (hours_of held') (deal_of q) i j Tariff k l
  tariff_same here = here
  tariff_same (same e) = same e

  free-same : {q : Slot} {k l : ℕ} → SameExcept held held' q i j old_free k l → SameExcept held held' q i j new_free k l →
      SameExcept (hours_of held) (hours_of held') (deal_of q) i j Free k l
  free-same here f = here
  free-same (same e) here = here
  free-same (same e) (same f) = same (ap₂ ◌+◌ e f)

hours_there : {held held' : Held} (q : Slot) {i j x : ℕ} → Added held held' q i j x →
    hours_of held' (deal_of q) i j ≡ hours_of held (deal_of q) i j + x
hours_there by_tariff plus = plus.there
hours_there old_free {i} {j} plus = omega (arith, plus.there, new_beside_old (plus.rest new_free i j))
hours_there new_free {i} {j} plus = omega (arith, plus.there, old_beside_new (plus.rest old_free i j))

pub hours_added : {held held' : Held} {q : Slot} {i j x : ℕ} → Added held held' q i j x →
    Added (hours_of held) (hours_of held') (deal_of q) i j x
hours_added {held} {held'} {q} {i} {j} plus = record { there = hours_there q plus; rest = rest }
  where
    rest : (d : Deal) (k l : ℕ) → SameExcept (hours_of held) (hours_of held') (deal_of q) i j d k l
    rest Tariff k l = tariff_same (plus.rest by_tariff k l)
    rest Free k l = free-same (plus.rest old_free k l) (plus.rest new_free k l)

-- a sum over deals of which one has x more
sum_deals-one : (f g : Deal → ℕ → ℕ) (d : Deal) (y x k : ℕ) → y < k → g d y ≡ f d y + x →
    ((e : Deal) (z : ℕ) → (e ≡ d → z ≡ y → ⊥) → g e z ≡ f e z) → sum_deals g k ≡ sum_deals f k + x
sum_deals-one f g d y x k hy there rest =
    omega (
      arith,
      go d there rest,
      sum_one (λ z. f Tariff z + f Free z) (λ z. g Tariff z + g Free z) k y hy
          (λ z hz ne. ap₂ ◌+◌ (rest Tariff z (λ _. ne)) (rest Free z (λ _. ne))),
    )
  where
    go : (d : Deal) → g d y ≡ f d y + x → ((e : Deal) (z : ℕ) → (e ≡ d → z ≡ y → ⊥) → g e z ≡ f e z) →
        g Tariff y + g Free y ≡ f Tariff y + f Free y + x
    go Tariff there rest = omega (arith, there, rest Free y (λ p _. (let z : ◌≡◌ {A = ℕ} 0 1 = cc in omega arith)))
    go Free there rest = omega (arith, there, rest Tariff y (λ p _. (let z : ◌≡◌ {A = ℕ} 0 1 = cc in omega arith)))

module _ (t : Ticket) {held held' : Held} {q : Slot} {i j x : ℕ} (plus : Added held held' q i j x) where
  up : Added (hours_of held) (hours_of held') (deal_of q) i j x
  up = hours_added plus

  pub used_by_grower_more : j < t.pilots → used_by_grower t (hours_of held') i ≡ used_by_grower t (hours_of held) i + x
  used_by_grower_more h = sum_deals-one (λ d l. hours_of held d i l) (λ d l. hours_of held' d i l) (deal_of q) j x t.pilots h up.there
      (λ d l ne. elsewhere (up.rest d i l) (λ p _. ne p))

  pub used_by_pilot_more : i < t.growers → used_by_pilot t (hours_of held') j ≡ used_by_pilot t (hours_of held) j + x
  used_by_pilot_more h = sum_deals-one (λ d k. hours_of held d k j) (λ d k. hours_of held' d k j) (deal_of q) i x t.growers h up.there
      (λ d k ne. elsewhere (up.rest d k j) (λ p e _. ne p e))

  pub used_by_pilot-same : (l : ℕ) → l ≢ j → used_by_pilot t (hours_of held') l ≡ used_by_pilot t (hours_of held) l
  used_by_pilot-same l ne = sum_same _ _ t.growers
      (λ k h. ap₂ ◌+◌ (elsewhere (up.rest Tariff k l) (λ _ _. ne)) (elsewhere (up.rest Free k l) (λ _ _. ne)))
