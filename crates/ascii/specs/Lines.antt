-- Lines of numbers, and the text of a refusal.
-- Assumes nothing.
use Rattle.std.specs.Prelude.{ℕ, List, [], ◌∷◌, ◌++◌}
use Rattle.ascii.specs.Decimal.{decimal}

-- what stands after a number of a line: a space if more numbers follow, else the end of the line
abbrev pub separator : List ℕ → ℕ
separator [] = 10
separator (x ∷ xs) = 32

-- a line of numbers, each in decimal and followed by its separator
abbrev pub line : List ℕ → List ℕ
line [] = []
line (x ∷ xs) = decimal x ++ (separator xs ∷ line xs)

-- `REFUSED ` and the refusal's number, alone
abbrev pub refused_word : List ℕ
refused_word = 82 ∷ 69 ∷ 70 ∷ 85 ∷ 83 ∷ 69 ∷ 68 ∷ 32 ∷ []

abbrev pub refused_text : ℕ → List ℕ
refused_text why = refused_word ++ line (why ∷ [])
