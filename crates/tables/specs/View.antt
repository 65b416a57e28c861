-- What lists of numbers mean: a ticket's list as market's ticket, a settlement's list as market's settlement.
-- Both lists begin with kind, n and m. A ticket goes on with n grower hours, m pilot hours and five numbers for each pair,
-- a settlement with three numbers for each pair.
-- Assumes nothing.
use Rattle.std.specs.Prelude.{◌≡◌, ℕ, ◌+◌, ◌*◌, ◌<◌, min, List, get_or, take}
use Rattle.grid.specs.Grid.{Grid}
use Rattle.grid.specs.Fill.{Filled, FilledOver, FilledRow}
use Rattle.market.specs.Market.{Ticket, Settlement}
use Rattle.market.specs.Tables.{by_deal}
use Rattle.tables.specs.declared.Side.{Side}
use Rattle.tables.specs.declared.Side.TheVariants.{Growers, Pilots}
use Rattle.tables.specs.declared.Quantity.{Quantity}
use Rattle.tables.specs.declared.Quantity.TheVariants.{TariffCap, TariffGain, TariffPay, FreeCap, JointGain}
use Rattle.tables.specs.declared.Quantity.TheVariants.{TariffHours, FreeDealHours, Pay}

-- how many growers and how many pilots there are
abbrev pub growers_of : List ℕ → ℕ
growers_of list = get_or list 1 0

abbrev pub pilots_of : List ℕ → ℕ
pilots_of list = get_or list 2 0

-- where the k-th of `each` numbers of the pair i j stands, if those of the first pair begin at `start`
abbrev pub pair_place : ℕ → ℕ → ℕ → ℕ → ℕ → ℕ → ℕ
pair_place start each k m i j = start + each * (i * m + j) + k

-- where a quantity of the pair i j stands among n growers and m pilots
abbrev pub place_of : Quantity → ℕ → ℕ → ℕ → ℕ → ℕ
place_of TariffCap n = λ m. pair_place (3 + n + m) 5 0 m
place_of TariffGain n = λ m. pair_place (3 + n + m) 5 1 m
place_of TariffPay n = λ m. pair_place (3 + n + m) 5 2 m
place_of FreeCap n = λ m. pair_place (3 + n + m) 5 3 m
place_of JointGain n = λ m. pair_place (3 + n + m) 5 4 m
place_of TariffHours n = pair_place 3 3 0
place_of FreeDealHours n = pair_place 3 3 1
place_of Pay n = pair_place 3 3 2

-- The same for all pairs: that of the first pair stands at `first`, that of each other pair `each` places after the last.
pub record Spreads (q : Quantity) (n m first each : ℕ) : Type 0 where
  pub places : (i j : ℕ) → place_of q n m i j ≡ first + each * (i * m + j)
  pub early : first < 200000
  pub few : each < 6

abbrev pub quantity_of : Quantity → List ℕ → ℕ → ℕ → ℕ
quantity_of q list i j = get_or list (place_of q (growers_of list) (pilots_of list) i j) 0

-- everybody's own hours, and where they stand among n growers
abbrev pub grower_place : ℕ → ℕ
grower_place i = 3 + i

abbrev pub pilot_place : ℕ → ℕ → ℕ
pilot_place n j = 3 + n + j

abbrev pub hours_place : Side → ℕ → ℕ → ℕ
hours_place Growers n = grower_place
hours_place Pilots n = pilot_place n

abbrev pub grower_hours_of : List ℕ → ℕ → ℕ
grower_hours_of list i = get_or list (grower_place i) 0

abbrev pub pilot_hours_of : List ℕ → ℕ → ℕ
pilot_hours_of list j = get_or list (pilot_place (growers_of list) j) 0

-- how many numbers a ticket has, and a settlement; and those numbers, where others follow them
abbrev pub ticket_length : ℕ → ℕ → ℕ
ticket_length n m = 3 + n + m + 5 * (n * m)

abbrev pub settlement_length : ℕ → ℕ → ℕ
settlement_length n m = 3 + 3 * (n * m)

abbrev pub ticket_front : List ℕ → List ℕ
ticket_front list = take (ticket_length (growers_of list) (pilots_of list)) list

abbrev pub settlement_front : List ℕ → List ℕ
settlement_front list = take (settlement_length (growers_of list) (pilots_of list)) list

-- a free hour is worth nothing
abbrev pub ticket_of : List ℕ → Ticket
ticket_of list = record {
  growers = growers_of list;
  pilots = pilots_of list;
  grower_hours = grower_hours_of list;
  pilot_hours = pilot_hours_of list;
  tariff_cap = quantity_of TariffCap list;
  tariff_gain = quantity_of TariffGain list;
  tariff_pay = quantity_of TariffPay list;
  free_cap = quantity_of FreeCap list;
  joint_gain = quantity_of JointGain list;
  grower_standby = λ i. 0;
  pilot_standby = λ j. 0;
}

-- The first growers and pilots of a market, at most 16 of each: those for whom squares have room. A ticket that passes its checks has no
-- others.
abbrev pub first_sixteen : Ticket → Ticket
first_sixteen t = record {
  growers = min 16 t.growers;
  pilots = min 16 t.pilots;
  grower_hours = t.grower_hours;
  pilot_hours = t.pilot_hours;
  tariff_cap = t.tariff_cap;
  tariff_gain = t.tariff_gain;
  tariff_pay = t.tariff_pay;
  free_cap = t.free_cap;
  joint_gain = t.joint_gain;
  grower_standby = t.grower_standby;
  pilot_standby = t.pilot_standby;
}

-- those with whom a side has its deals
abbrev pub across : Side → Side
across Growers = Pilots
across Pilots = Growers

-- how many parties a side has, and their own hours
abbrev pub parties_of : Side → Ticket → ℕ
parties_of Growers t = t.growers
parties_of Pilots t = t.pilots

abbrev pub hours_of : Side → Ticket → ℕ → ℕ
hours_of Growers t = t.grower_hours
hours_of Pilots t = t.pilot_hours

abbrev pub settlement_of : List ℕ → Settlement
settlement_of list = record {
  hours = by_deal (quantity_of TariffHours list) (quantity_of FreeDealHours list);
  pay = quantity_of Pay list;
}

-- A square holds a quantity of a list: that of each pair, as far as the square reaches, and 0 elsewhere.
abbrev pub Holds : Quantity → List ℕ → Grid → Type 0
Holds quantity list square = Filled (quantity_of quantity list) (min 16 (growers_of list)) (min 16 (pilots_of list)) square

-- The same of a square that held something before, which stands elsewhere as it stood.
abbrev pub HoldsOver : Grid → Quantity → List ℕ → Grid → Type 0
HoldsOver before quantity list square = FilledOver before (quantity_of quantity list) (min 16 (growers_of list)) (min 16 (pilots_of list))
    square

-- Rows and squares hold all that a ticket's list says.
pub record HoldTicket (list grower_hours pilot_hours : List ℕ) (tariff_cap tariff_gain tariff_pay free_cap joint_gain : Grid) : Type 0 where
  pub grower_hours_in : FilledRow (grower_hours_of list) (min 16 (growers_of list)) grower_hours
  pub pilot_hours_in : FilledRow (pilot_hours_of list) (min 16 (pilots_of list)) pilot_hours
  pub tariff_cap_in : Holds TariffCap list tariff_cap
  pub tariff_gain_in : Holds TariffGain list tariff_gain
  pub tariff_pay_in : Holds TariffPay list tariff_pay
  pub free_cap_in : Holds FreeCap list free_cap
  pub joint_gain_in : Holds JointGain list joint_gain

-- Squares hold all that a settlement's list says.
pub record HoldSettlement (list : List ℕ) (tariff_hours free_deal_hours pay : Grid) : Type 0 where
  pub tariff_hours_in : Holds TariffHours list tariff_hours
  pub free_deal_hours_in : Holds FreeDealHours list free_deal_hours
  pub pay_in : Holds Pay list pay
