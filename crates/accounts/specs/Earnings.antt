-- What a party earns over all its hours, as the code sums it; and which numbers of files are small enough for it.
-- Assumes nothing.
use Rattle.std.specs.Prelude.{ℕ, ◌+◌, ◌*◌, ◌-◌, ◌≤◌, ◌<◌, ◌≡◌, List, [], get_or}
use Rattle.grid.specs.Grid.{Grid}
use Rattle.grid.specs.Sum.{sum}
use Rattle.market.specs.Accounts.{grower_gain, pilot_pay}
use Rattle.tables.specs.View.{growers_of, pilots_of, ticket_of, settlement_of}

-- Rows have a number for each of k partners: hours by the tariff and in the free deal, what an hour by the tariff earns, what an hour of
-- the free deal brings, and how much of that goes to the partner.
abbrev pub earned_with : List ℕ → List ℕ → List ℕ → List ℕ → List ℕ → ℕ → ℕ
earned_with tariff_hours free_deal_hours tariff whole given l =
    get_or tariff_hours l 0 * get_or tariff l 0 + get_or free_deal_hours l 0 * (get_or whole l 0 - get_or given l 0)

abbrev pub earned_in : List ℕ → List ℕ → List ℕ → List ℕ → List ℕ → ℕ → ℕ
earned_in tariff_hours free_deal_hours tariff whole given k = sum (earned_with tariff_hours free_deal_hours tariff whole given) k

-- the same of the rows that stand at a place of five squares
abbrev pub earned_at : Grid → Grid → Grid → Grid → Grid → ℕ → ℕ → ℕ
earned_at tariff_hours free_deal_hours tariff whole given k p =
    earned_in (get_or tariff_hours p []) (get_or free_deal_hours p []) (get_or tariff p []) (get_or whole p []) (get_or given p []) k

-- 60 hours at 500 euros, in each of two deals with each of 16 partners
abbrev pub most_earned : ℕ
most_earned = 960000

-- a list of earnings of which the first k are no greater
abbrev pub Small : List ℕ → ℕ → Type 0
Small amounts k = (p : ℕ) → p < k → get_or amounts p 0 ≤ most_earned

-- The numbers of a ticket and of a settlement of it, of at most 16 growers and pilots who earn no more.
pub record Modest (xs ys : List ℕ) : Type 0 where
  pub growers : growers_of xs ≤ 16
  pub pilots : pilots_of xs ≤ 16
  pub same_growers : growers_of ys ≡ growers_of xs
  pub same_pilots : pilots_of ys ≡ pilots_of xs
  pub gain : (i : ℕ) → i < growers_of xs → grower_gain (ticket_of xs) (settlement_of ys) i ≤ most_earned
  pub pay : (j : ℕ) → j < pilots_of xs → pilot_pay (ticket_of xs) (settlement_of ys) j ≤ most_earned
