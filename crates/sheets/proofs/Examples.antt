-- The definitions give the sheet of docs/FORMAT.md: that of ticket A, settled with its one tariff hour. And refusals of
-- one digit and of two.
-- Assumes nothing.
use mathlib.Core.Path.{◌≡◌, refl}
use mathlib.Core.List.{[], ◌∷◌}
use Rattle.grid.specs.First.{first}
use Rattle.grid.specs.Sum.{sum}
use Rattle.verdicts.specs.Tests.{cheapest_of}
use Rattle.ascii.specs.Decimal.{decimal}
use Rattle.sheets.specs.Sheet.{pair_lines, sheet_text}
use Rattle.ascii.specs.Lines.{refused_text}

pub sheet_of_a : sheet_text (1 ∷ 1 ∷ 1 ∷ 3 ∷ 2 ∷ 1 ∷ 4 ∷ 3 ∷ 0 ∷ 0 ∷ []) (2 ∷ 1 ∷ 1 ∷ 1 ∷ 0 ∷ 0 ∷ [])
    ≡ 83 ∷ 72 ∷ 69 ∷ 69 ∷ 84 ∷ 32 ∷ 49 ∷ 32 ∷ 49 ∷ 10 ∷ 48 ∷ 32 ∷ 48 ∷ 32 ∷ 49 ∷ 32 ∷ 52 ∷ 32 ∷ 51 ∷ 32 ∷ 48 ∷ 32 ∷ 48 ∷ 32 ∷ 48 ∷ 10 ∷
    83 ∷ 79 ∷ 85 ∷ 78 ∷ 68 ∷ 32 ∷ 50 ∷ 10 ∷ []
unfolding decimal pair_lines first sum cheapest_of
sheet_of_a = refl

pub refusal_nine : refused_text 9 ≡ 82 ∷ 69 ∷ 70 ∷ 85 ∷ 83 ∷ 69 ∷ 68 ∷ 32 ∷ 57 ∷ 10 ∷ []
unfolding decimal
refusal_nine = refl

pub refusal_eighteen : refused_text 18 ≡ 82 ∷ 69 ∷ 70 ∷ 85 ∷ 83 ∷ 69 ∷ 68 ∷ 32 ∷ 49 ∷ 56 ∷ 10 ∷ []
unfolding decimal
refusal_eighteen = refl
