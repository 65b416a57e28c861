-- The cheapest spare that the marker computes is the cheapest of market's spares.
-- Assumes nothing.
use Prim.Native.Nat.{ℕ, ◌<◌}
use mathlib.Core.Path.{◌≡◌, refl}
use mathlib.Core.Logic.{◌⊎◌, inl, inr}
use native.Mathlib.Omega.{arith}
use Rattle.market.specs.declared.Deal.{Deal}
use Rattle.market.specs.Market.{Ticket, Settlement, earned_by_grower, earned_by_pilot}
use Rattle.market.specs.Market.{SpareOfGrower, SpareOfPilot, free_hour, other_deal}
use Rattle.verdicts.proofs.CheapestSpares.{CheapestIs, cheapest_of_lem}
use Rattle.marker.specs.Verdict.{free_of_grower, free_of_pilot, grower_spare, pilot_spare}

module _ (t : Ticket) (x : Settlement) (d : Deal) (i j : ℕ) where
  -- a spare is worth a free hour, or an hour of another deal
  only_of-grower : (w : ℕ) → SpareOfGrower t x d i j w → ((0 < free_of_grower t x i) × (w ≡ t.grower_standby i))
      ⊎ ((e : Deal) × (l : ℕ) × (l < t.pilots) × (e ≡ d → l ≡ j → ⊥) × (0 < x.hours e i l) × (w ≡ earned_by_grower t x e i l))
  only_of-grower w (free_hour h) = inl (omega arith, refl)
  only_of-grower w (other_deal e l hl other some) = inr (e, l, hl, other, some, refl)

  only_of-pilot : (w : ℕ) → SpareOfPilot t x d i j w → ((0 < free_of_pilot t x j) × (w ≡ t.pilot_standby j))
      ⊎ ((e : Deal) × (k : ℕ) × (k < t.growers) × (e ≡ d → k ≡ i → ⊥) × (0 < x.hours e k j) × (w ≡ earned_by_pilot t x e k j))
  only_of-pilot w (free_hour h) = inl (omega arith, refl)
  only_of-pilot w (other_deal e k hk other some) = inr (e, k, hk, other, some, refl)

  pub cheapest_of-grower : CheapestIs (SpareOfGrower t x d i j) (grower_spare t x d i j)
  cheapest_of-grower =
      cheapest_of_lem (free_of_grower t x i) (t.grower_standby i) (λ e l. x.hours e i l) (λ e l. earned_by_grower t x e i l) t.pilots d j
      (SpareOfGrower t x d i j)
      (record {
        free_hour_lem = λ h. free_hour (omega arith);
        other_deal_lem = other_deal;
        only = only_of-grower;
      })

  pub cheapest_of-pilot : CheapestIs (SpareOfPilot t x d i j) (pilot_spare t x d i j)
  cheapest_of-pilot =
      cheapest_of_lem (free_of_pilot t x j) (t.pilot_standby j) (λ e k. x.hours e k j) (λ e k. earned_by_pilot t x e k j) t.growers d i
      (SpareOfPilot t x d i j)
      (record {
        free_hour_lem = λ h. free_hour (omega arith);
        other_deal_lem = other_deal;
        only = only_of-pilot;
      })
