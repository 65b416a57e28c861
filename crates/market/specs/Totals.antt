-- What all hours together are worth, and tickets that differ in one joint gain.
-- Assumes nothing.
use Rattle.std.specs.Prelude.{ℕ, ◌+◌, ◌*◌, ◌-◌, min, ◌<◌, ◌≡◌, cond, ltb}
use Rattle.grid.specs.Sum.{sum, sum_square}
use Rattle.market.specs.declared.Deal.TheVariants.{Free}
use Rattle.market.specs.Market.{DealHours, Ticket, used_by_grower, used_by_pilot}

module _ (t : Ticket) where
  abbrev pub NoTariffDeals : Type 0
  NoTariffDeals = (i j : ℕ) → i < t.growers → j < t.pilots → t.tariff_cap i j ≡ 0

  -- all tariff caps together, 0 exactly where there are no tariff deals
  abbrev pub tariff_cap_total : ℕ
  tariff_cap_total = sum_square t.tariff_cap t.growers t.pilots

  module _ (h : DealHours) where
    -- the joint gain of all hours in free deals
    abbrev pub gain_total : ℕ
    gain_total = sum_square (λ i j. h Free i j * t.joint_gain i j) t.growers t.pilots

    -- the standby of all free hours
    abbrev pub grower_standby_total : ℕ
    grower_standby_total = sum (λ i. t.grower_standby i * (t.grower_hours i - used_by_grower t h i)) t.growers

    abbrev pub pilot_standby_total : ℕ
    pilot_standby_total = sum (λ j. t.pilot_standby j * (t.pilot_hours j - used_by_pilot t h j)) t.pilots

    -- the worth of all hours, where there are no tariff deals
    abbrev pub total_worth : ℕ
    total_worth = gain_total + grower_standby_total + pilot_standby_total

    -- the worth that is given with a sound settlement, which is then the greatest: 0 where a tariff cap is above 0
    abbrev pub promised_worth : ℕ
    promised_worth = cond (ltb 0 tariff_cap_total) 0 total_worth

-- the most hours that a grower and a pilot can have of their free deal
abbrev pub most_hours : Ticket → ℕ → ℕ → ℕ
most_hours t i j = min (t.free_cap i j) (min (t.grower_hours i) (t.pilot_hours j))

-- the ticket with other joint gains
abbrev pub with_gains : Ticket → (ℕ → ℕ → ℕ) → Ticket
with_gains t c = record {
  growers = t.growers;
  pilots = t.pilots;
  grower_hours = t.grower_hours;
  pilot_hours = t.pilot_hours;
  tariff_cap = t.tariff_cap;
  tariff_gain = t.tariff_gain;
  tariff_pay = t.tariff_pay;
  free_cap = t.free_cap;
  joint_gain = c;
  grower_standby = t.grower_standby;
  pilot_standby = t.pilot_standby;
}
