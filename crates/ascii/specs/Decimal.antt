-- A number below 1000 in decimal digits.
-- Assumes nothing.
use Rattle.std.specs.Prelude.{ℕ, zero, suc, ◌+◌, ◌/◌, ◌%◌, List, [], ◌∷◌}

-- the byte of a digit
abbrev pub digit : ℕ → ℕ
digit d = 48 + d

-- hundreds, tens and units, without leading zeros
abbrev pub spelled : ℕ → ℕ → ℕ → List ℕ
spelled zero zero units = digit units ∷ []
spelled zero (suc tens) units = digit (suc tens) ∷ digit units ∷ []
spelled (suc hundreds) tens units = digit (suc hundreds) ∷ digit tens ∷ digit units ∷ []

unfoldable pub decimal : ℕ → List ℕ
decimal n = spelled (n / 100) (n / 10 % 10) (n % 10)
