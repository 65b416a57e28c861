-- The result: squares of what everybody flies, from the hours held and the prices.
-- Assumes nothing.
use Rattle.std.specs.Prelude.{ℕ, ◌≤◌, ◌≡◌, ◌⊎◌, List, ltb}
use Rattle.grid.specs.Pick.{pick}
use Rattle.grid.specs.Grid.{Grid, at}
use Rattle.grid.specs.Fill.{Filled, FilledOver}
use Rattle.market.specs.declared.Deal.TheVariants.{Tariff, Free}
use Rattle.market.specs.Method.{hours_of}
use Rattle.euros.specs.Euros.{euros_of}
use Rattle.offers.specs.declared.Agreed.{Agreed}
use Rattle.method.specs.View.{line, held_in}

-- the pay per hour of a free deal, in whole euros, of the pilot's price and the deal's hours
abbrev pub pay_at : ℕ → ℕ → ℕ → ℕ
pay_at price shift hours = pick (ltb 0 hours) (euros_of price shift) 0

-- the pay of every pair
abbrev pub pays_of : List (List Agreed) → List ℕ → ℕ → ℕ → ℕ → ℕ
pays_of held prices shift i j = pay_at (line prices j) shift (hours_of (held_in held) Free i j)

-- what n growers and m pilots fly that hold these hours, in squares that held something before
pub record Flown (held : List (List Agreed)) (prices : List ℕ) (shift n m : ℕ)
    (tariff_before free_before tariff_hours free_deal_hours pay : Grid) : Type 0 where
  pub tariff_hours_in : FilledOver tariff_before (hours_of (held_in held) Tariff) n m tariff_hours
  pub free_deal_hours_in : FilledOver free_before (hours_of (held_in held) Free) n m free_deal_hours
  pub pay_in : Filled (pays_of held prices shift) n m pay

-- beyond n growers and m pilots the squares of hours stand as they stood, and there is no pay
pub record Beyond (n m : ℕ) (tariff_before free_before tariff_hours free_deal_hours pay : Grid) : Type 0 where
  pub tariff_hours_kept : (i j : ℕ) → (n ≤ i) ⊎ (m ≤ j) → at tariff_hours i j ≡ at tariff_before i j
  pub free_deal_hours_kept : (i j : ℕ) → (n ≤ i) ⊎ (m ≤ j) → at free_deal_hours i j ≡ at free_before i j
  pub no_pay : (i j : ℕ) → (n ≤ i) ⊎ (m ≤ j) → at pay i j ≡ 0
