-- The method that settles a ticket: its state, its invariant, when it is done, and the settlement that it then makes.
-- Prices are in eighteenths of a euro. Assumes nothing.
use Rattle.std.specs.Prelude.{ℕ, suc, ◌+◌, ◌*◌, ◌-◌, ◌/◌, ◌%◌, ◌≤◌, ◌<◌, ◌≡◌, ◌≢◌, leb, ltb}
use Rattle.grid.specs.Pick.{pick}
use Rattle.market.specs.declared.Deal.{Deal}
use Rattle.market.specs.declared.Deal.TheVariants.{Tariff, Free}
use Rattle.market.specs.Market.{DealHours, Ticket, Settlement, cap, used_by_grower, used_by_pilot}

-- How an hour is held: by the tariff; in the free deal at the pilot's price, a new hour; or there at one eighteenth less,
-- an old hour.
pub data Slot : Type 0 where
  by_tariff old_free new_free : Slot

-- The state: the hours that each grower and pilot hold in each way, and the price of each pilot.
abbrev pub Held : Type 0
Held = Slot → ℕ → ℕ → ℕ

abbrev pub deal_of : Slot → Deal
deal_of by_tariff = Tariff
deal_of old_free = Free
deal_of new_free = Free

-- how hours that a deal gets more are held
abbrev pub slot_for : Deal → Slot
slot_for Tariff = by_tariff
slot_for Free = new_free

abbrev pub hours_of : Held → DealHours
hours_of held Tariff i j = held by_tariff i j
hours_of held Free i j = held old_free i j + held new_free i j

module _ (t : Ticket) (price : ℕ → ℕ) where
  -- what an hour more of a deal would bring the grower, and 1: an offer of 0 says that the pilot would not take it
  abbrev pub offer : Deal → ℕ → ℕ → ℕ
  offer Tariff i j = pick (leb (price j) (18 * t.tariff_pay i j)) (suc (18 * t.tariff_gain i j)) 0
  offer Free i j = suc (18 * t.joint_gain i j) - price j

  -- what a held hour brings the grower, and 1
  abbrev pub worth : Slot → ℕ → ℕ → ℕ
  worth by_tariff i j = suc (18 * t.tariff_gain i j)
  worth old_free i j = suc (suc (18 * t.joint_gain i j)) - price j
  worth new_free i j = suc (18 * t.joint_gain i j) - price j

  -- what a held hour tells of the price: the pilot asks for at most 1 more than he has, the grower has at least standby
  abbrev pub Fair : Slot → ℕ → ℕ → Type 0
  Fair by_tariff i j = (price j ≤ 18 * t.tariff_pay i j + 1) × (t.grower_standby i ≤ t.tariff_gain i j)
  Fair old_free i j = price j + 18 * t.grower_standby i ≤ 18 * t.joint_gain i j + 1
  Fair new_free i j = price j + 18 * t.grower_standby i ≤ 18 * t.joint_gain i j

  -- a number to add to every price before it is rounded down to euros
  pub record GoodShift (r : ℕ) : Type 0 where
    pub small : r ≤ 16
    pub apart : (j : ℕ) → j < t.pilots → (price j + r) % 18 ≢ 0

  -- the price of a pilot in euros
  abbrev pub euro_price : ℕ → ℕ → ℕ
  euro_price r j = (price j + r) / 18

  module _ (held : Held) where
    -- a deal's hours; but its cap, if it offers more than v
    abbrev pub filled : ℕ → DealHours
    filled v d i j = pick (ltb v (offer d i j)) (cap t d i j) (hours_of held d i j)

    -- the hours of grower i, if every deal were filled that offers more than v
    abbrev pub demand_above : ℕ → ℕ → ℕ
    demand_above v i = used_by_grower t (filled v) i

    pub record PairLaw (i j : ℕ) : Type 0 where
      pub within_cap : (d : Deal) → hours_of held d i j ≤ cap t d i j
      pub fair : (q : Slot) → 0 < held q i j → Fair q i j

    -- whatever hour grower i holds, all deals that offer more could be filled as well
    pub record GrowerLaw (i : ℕ) : Type 0 where
      pub within_hours : used_by_grower t (hours_of held) i ≤ t.grower_hours i
      pub better_first : (q : Slot) (j : ℕ) → j < t.pilots → 0 < held q i j → demand_above (worth q i j) i ≤ t.grower_hours i

    -- a pilot asks for at least standby, and for more only without a free hour
    pub record PilotLaw (j : ℕ) : Type 0 where
      pub within_hours : used_by_pilot t (hours_of held) j ≤ t.pilot_hours j
      pub floor : 18 * t.pilot_standby j ≤ price j
      pub full : 18 * t.pilot_standby j < price j → used_by_pilot t (hours_of held) j ≡ t.pilot_hours j

    -- what holds even in the middle of a step
    pub record Core : Type 0 where
      pub pair : (i j : ℕ) → i < t.growers → j < t.pilots → PairLaw i j
      pub grower : (i : ℕ) → i < t.growers → GrowerLaw i

    pub record Invariant : Type 0 where
      pub core : Core
      pub pilot : (j : ℕ) → j < t.pilots → PilotLaw j

    -- no grower with a free hour has a deal with room that brings him as much as the free hour
    abbrev pub Done : Type 0
    Done = (d : Deal) (i j : ℕ) → i < t.growers → j < t.pilots → used_by_grower t (hours_of held) i < t.grower_hours i →
        hours_of held d i j < cap t d i j → offer d i j ≤ 18 * t.grower_standby i

    abbrev pub settled : ℕ → Settlement
    settled r = record {
      hours = hours_of held;
      pay = λ i j. pick (ltb 0 (hours_of held Free i j)) (euro_price r j) 0;
    }
