-- The lines of two answers and the text of a verdict, computed from the definitions.
-- Assumes nothing.
use mathlib.Core.Path.{◌≡◌, refl}
use mathlib.Core.List.{[], ◌∷◌}
use Rattle.checks.specs.declared.refusals.Refusal.{Refusal}
use Rattle.market.specs.declared.Deal.TheVariants.{Free}
use Rattle.verdicts.specs.declared.Verdict.TheVariants.{Refused, Blocks}
use Rattle.verdicts.specs.Values.{values_of}
use Rattle.ascii.specs.Decimal.{decimal}
use Rattle.texts.specs.declared.Meaning.{Meaning}
use Rattle.texts.specs.MarkLine.{mark_line}
use Rattle.texts.specs.Meanings.{telling_of}

-- `MARK 8 0 1 free 4`
pub blocks : mark_line (values_of (Blocks 0 1 Free 4)) ≡ 77 ∷ 65 ∷ 82 ∷ 75 ∷ 32 ∷ 56 ∷ 32 ∷ 48 ∷ 32 ∷ 49 ∷ 32 ∷ 102 ∷ 114 ∷ 101 ∷ 101 ∷ 32
    ∷ 52 ∷ 10 ∷ []
unfolding decimal
blocks = refl

-- `REFUSED 16`
pub refused : mark_line (values_of (Refused Refusal.SettlementNumbersLeft)) ≡ 82 ∷ 69 ∷ 70 ∷ 85 ∷ 83 ∷ 69 ∷ 68 ∷ 32 ∷ 49 ∷ 54 ∷ 10 ∷ []
unfolding decimal
refused = refl

-- `blocks`
pub verdict : telling_of Meaning.Verdict 8 ≡ 98 ∷ 108 ∷ 111 ∷ 99 ∷ 107 ∷ 115 ∷ []
verdict = refl
