-- A ticket and a settlement whose quantities stand in rows and in squares of growers by pilots, as the code holds them.
-- Assumes nothing.
use Rattle.std.specs.Prelude.{ℕ, List, get_or}
use Rattle.grid.specs.Grid.{Grid, at}
use Rattle.market.specs.declared.Deal.{Deal}
use Rattle.market.specs.declared.Deal.TheVariants.{Tariff, Free}
use Rattle.market.specs.Market.{Ticket, Settlement}

-- one thing for tariff deals, another for free deals
abbrev pub by_deal : {A : Type 0} → A → A → Deal → A
by_deal tariff free Tariff = tariff
by_deal tariff free Free = free

-- the ticket of everybody's hours and five squares; a free hour is worth nothing
abbrev pub ticket_in : ℕ → ℕ → List ℕ → List ℕ → Grid → Grid → Grid → Grid → Grid → Ticket
ticket_in growers pilots grower_hours pilot_hours tariff_cap tariff_gain tariff_pay free_cap joint_gain = record {
  growers = growers;
  pilots = pilots;
  grower_hours = λ i. get_or grower_hours i 0;
  pilot_hours = λ j. get_or pilot_hours j 0;
  tariff_cap = at tariff_cap;
  tariff_gain = at tariff_gain;
  tariff_pay = at tariff_pay;
  free_cap = at free_cap;
  joint_gain = at joint_gain;
  grower_standby = λ i. 0;
  pilot_standby = λ j. 0;
}

-- the settlement of three squares
abbrev pub settlement_in : Grid → Grid → Grid → Settlement
settlement_in tariff_hours free_deal_hours pay = record {
  hours = by_deal (at tariff_hours) (at free_deal_hours);
  pay = at pay;
}
