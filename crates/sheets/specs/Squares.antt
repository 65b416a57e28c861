-- The lines of pairs whose quantities stand in squares of growers by pilots.
-- Assumes nothing.
use Rattle.std.specs.Prelude.{ℕ, ◌<◌, ◌≤◌, List, get_or}
use Rattle.grid.specs.Grid.{Grid, at}
use Rattle.sheets.specs.Sheet.{pair_numbers, line_if_hours}

abbrev pub numbers_in : Grid → Grid → Grid → Grid → Grid → Grid → ℕ → ℕ → List ℕ
numbers_in tariff_hours tariff_gain tariff_pay free_deal_hours joint_gain pay i j =
    pair_numbers i j (at tariff_hours i j) (at tariff_gain i j) (at tariff_pay i j) (at free_deal_hours i j) (at joint_gain i j) (at pay i j)

abbrev pub line_in : Grid → Grid → Grid → Grid → Grid → Grid → ℕ → ℕ → List ℕ
line_in tariff_hours tariff_gain tariff_pay free_deal_hours joint_gain pay i j =
    line_if_hours (at tariff_hours i j) (at free_deal_hours i j) (numbers_in tariff_hours tariff_gain tariff_pay free_deal_hours joint_gain pay i j)

-- every number of every pair of n growers and m pilots is at most 500
abbrev pub Printable : ℕ → ℕ → (ℕ → ℕ → List ℕ) → Type 0
Printable n m numbers = (i j : ℕ) → i < n → j < m → (k : ℕ) → get_or (numbers i j) k 0 ≤ 500
