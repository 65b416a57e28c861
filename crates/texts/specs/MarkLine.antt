-- The line that tells what marking answered: `MARK ` with the verdict's number, grower, pilot, deal and count, or `REFUSED ` with the
-- refusal's number.
-- Assumes nothing.
use Rattle.std.specs.Prelude.{ℕ, cond, List, [], ◌∷◌, ◌++◌, eqb}
use Rattle.market.specs.declared.Deal.{Deal}
use Rattle.market.specs.declared.Deal.TheVariants.{Tariff, Free}
use Rattle.verdicts.specs.declared.Values.{Values}
use Rattle.ascii.specs.Decimal.{decimal}
use Rattle.ascii.specs.Lines.{line, refused_text}

-- `MARK `
abbrev pub mark_word : List ℕ
mark_word = 77 ∷ 65 ∷ 82 ∷ 75 ∷ 32 ∷ []

-- `tariff ` and `free `
abbrev pub deal_word : Deal → List ℕ
deal_word Tariff = 116 ∷ 97 ∷ 114 ∷ 105 ∷ 102 ∷ 102 ∷ 32 ∷ []
deal_word Free = 102 ∷ 114 ∷ 101 ∷ 101 ∷ 32 ∷ []

-- a number and a space
abbrev pub field : ℕ → List ℕ
field n = decimal n ++ (32 ∷ [])

-- the line of a verdict: its number, grower and pilot, then its deal and its count, which ends the line
abbrev pub head_of : Values → List ℕ
head_of v = mark_word ++ (field v.verdict ++ (field v.grower ++ field v.pilot))

abbrev pub verdict_line : Values → List ℕ
verdict_line v = head_of v ++ (deal_word v.deal ++ line (v.count ∷ []))

-- no refusal has the number 0
abbrev pub mark_line : Values → List ℕ
mark_line v = cond (eqb v.refusal 0) (verdict_line v) (refused_text v.refusal)

-- The longest line: `MARK `, four numbers of three digits and what stands after each, `tariff `.
abbrev pub line_bytes : ℕ
line_bytes = 28
