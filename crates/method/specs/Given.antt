-- What the ticket says of every pair, in one square made of five.
-- Assumes nothing.
use Rattle.std.specs.Prelude.{ℕ, ◌<◌, ◌≡◌, List}
use Rattle.grid.specs.Grid.{Grid, at}
use Rattle.offers.specs.declared.Terms.{Terms}
use Rattle.method.specs.View.{terms_at}

-- the terms of grower i and pilot j
abbrev pub terms_from : Grid → Grid → Grid → Grid → Grid → ℕ → ℕ → Terms
terms_from tariff_cap tariff_gain tariff_pay free_cap joint_gain i j = record {
  tariff_cap = at tariff_cap i j;
  tariff_gain = at tariff_gain i j;
  tariff_pay = at tariff_pay i j;
  free_cap = at free_cap i j;
  joint_gain = at joint_gain i j;
}

-- a square with those of n growers and m pilots
abbrev pub TermsOf : Grid → Grid → Grid → Grid → Grid → ℕ → ℕ → List (List Terms) → Type 0
TermsOf tariff_cap tariff_gain tariff_pay free_cap joint_gain n m terms = (i j : ℕ) → i < n → j < m →
    terms_at terms i j ≡ terms_from tariff_cap tariff_gain tariff_pay free_cap joint_gain i j
