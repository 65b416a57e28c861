-- Everybody's free hours. A free hour is one of somebody's own hours in no deal, so he has as many as his hours less those in his deals.
-- Assumes nothing.
use Rattle.std.specs.Prelude.{ℕ, ◌+◌, ◌-◌, List}
use Rattle.grid.specs.Sum.{sum}
use Rattle.grid.specs.Fill.{FilledRow}
use Rattle.market.specs.Market.{Ticket, Settlement, used_by_grower, used_by_pilot}
use Rattle.market.specs.declared.Deal.TheVariants.{Tariff, Free}
use Rattle.tables.specs.declared.Side.{Side}
use Rattle.tables.specs.declared.Side.TheVariants.{Growers, Pilots}
use Rattle.tables.specs.View.{across, parties_of, hours_of}

-- the hours of both deals of a grower and a pilot, and of a party and its partner
abbrev pub pair_hours : Settlement → ℕ → ℕ → ℕ
pair_hours x i j = x.hours Tariff i j + x.hours Free i j

abbrev pub hours_with : Side → Settlement → ℕ → ℕ → ℕ
hours_with Growers x i j = pair_hours x i j
hours_with Pilots x j i = pair_hours x i j

-- a party's hours, less those in its deals with all partners
abbrev pub free_of : Side → Ticket → Settlement → ℕ → ℕ
free_of side t x party = hours_of side t party - sum (hours_with side x party) (parties_of (across side) t)

-- a row of a side's free hours, and 0 beyond the last party
abbrev pub RowOf : Side → Ticket → Settlement → List ℕ → Type 0
RowOf side t x = FilledRow (free_of side t x) (parties_of side t)

-- The same in market's words: everybody's hours less those in the settlement.
pub record AreFree (t : Ticket) (x : Settlement) (growers pilots : List ℕ) : Type 0 where
  pub growers_in : FilledRow (λ i. t.grower_hours i - used_by_grower t x.hours i) t.growers growers
  pub pilots_in : FilledRow (λ j. t.pilot_hours j - used_by_pilot t x.hours j) t.pilots pilots
