-- Squares of pairs, as the code holds them, seen as a market's ticket, its held hours and its prices.
-- Assumes nothing.
use Rattle.std.specs.Prelude.{ℕ, ◌+◌, List, [], ◌∷◌, get_or}
use Rattle.market.specs.declared.Deal.{Deal}
use Rattle.market.specs.declared.Deal.TheVariants.{Tariff, Free}
use Rattle.market.specs.Market.{Ticket}
use Rattle.market.specs.Method.{Slot, by_tariff, old_free, new_free, Held}
use Rattle.offers.specs.declared.Terms.{Terms}
use Rattle.offers.specs.declared.Agreed.{Agreed}

-- a row of numbers
abbrev pub line : List ℕ → ℕ → ℕ
line l i = get_or l i 0

-- outside its square a pair has nothing
abbrev pub no_terms : Terms
no_terms = record { tariff_cap = 0; tariff_gain = 0; tariff_pay = 0; free_cap = 0; joint_gain = 0 }

abbrev pub no_hours : Agreed
no_hours = record { by_tariff = 0; old_free = 0; new_free = 0 }

-- a grower's pair with pilot j, in the row, and the pair of grower i and pilot j, in the square
abbrev pub terms_in : List Terms → ℕ → Terms
terms_in row j = get_or row j no_terms

abbrev pub terms_at : List (List Terms) → ℕ → ℕ → Terms
terms_at terms i j = terms_in (get_or terms i []) j

abbrev pub agreed_in : List Agreed → ℕ → Agreed
agreed_in row j = get_or row j no_hours

abbrev pub agreed_at : List (List Agreed) → ℕ → ℕ → Agreed
agreed_at held i j = agreed_in (get_or held i []) j

-- the ticket of rows of hours and a square of terms; a free hour is worth nothing
abbrev pub ticket : ℕ → ℕ → List ℕ → List ℕ → List (List Terms) → Ticket
ticket growers pilots grower_hours pilot_hours terms = record {
  growers = growers;
  pilots = pilots;
  grower_hours = line grower_hours;
  pilot_hours = line pilot_hours;
  tariff_cap = λ i j. (terms_at terms i j).tariff_cap;
  tariff_gain = λ i j. (terms_at terms i j).tariff_gain;
  tariff_pay = λ i j. (terms_at terms i j).tariff_pay;
  free_cap = λ i j. (terms_at terms i j).free_cap;
  joint_gain = λ i j. (terms_at terms i j).joint_gain;
  grower_standby = λ i. 0;
  pilot_standby = λ j. 0;
}

-- the ticket of one grower alone, of his row
abbrev pub alone : ℕ → ℕ → List Terms → Ticket
alone pilots hours row = ticket 1 pilots (hours ∷ []) [] (row ∷ [])

-- the hours that a pair holds in one way
abbrev pub hours_held : Agreed → Slot → ℕ
hours_held agreed by_tariff = agreed.by_tariff
hours_held agreed old_free = agreed.old_free
hours_held agreed new_free = agreed.new_free

-- the held hours in a square, and those of one grower alone, in a row
abbrev pub held_in : List (List Agreed) → Held
held_in held q i j = hours_held (agreed_at held i j) q

abbrev pub held_by : List Agreed → Held
held_by row = held_in (row ∷ [])

-- the hours and the cap of a deal of a pair
abbrev pub hours_in : Agreed → Deal → ℕ
hours_in agreed Tariff = agreed.by_tariff
hours_in agreed Free = agreed.old_free + agreed.new_free

abbrev pub cap_of : Terms → Deal → ℕ
cap_of terms Tariff = terms.tariff_cap
cap_of terms Free = terms.free_cap
