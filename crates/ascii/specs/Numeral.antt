-- A number of any width in decimal digits. For numbers below 1000 it is `decimal` (`numeral-decimal`, proofs/NumeralLaws.antt).
-- Assumes nothing.
use Rattle.std.specs.Prelude.{ℕ, zero, suc, ◌/◌, ◌%◌, cond, List, [], ◌∷◌, ◌++◌, ltb}
use Rattle.ascii.specs.Decimal.{digit}

-- its digits, at most k before the last one, without leading zeros
unfoldable pub numeral_in : ℕ → ℕ → List ℕ
numeral_in zero n = digit n ∷ []
numeral_in (suc k) n = cond (ltb n 10) (digit n ∷ []) (numeral_in k (n / 10) ++ (digit (n % 10) ∷ []))

-- a number n never has more than n digits before the last
abbrev pub numeral : ℕ → List ℕ
numeral n = numeral_in n n

-- no number of 64 bits has more digits
abbrev pub numeral_bytes : ℕ
numeral_bytes = 20
