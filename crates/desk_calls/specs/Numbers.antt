-- The number that a word spells in decimal digits.
-- Assumes nothing.
use Rattle.std.specs.Prelude.{ℕ, ◌+◌, ◌-◌, ◌*◌, Bool, Option, Some, None, cond, ◌&&◌, List, [], ◌∷◌, leb, ltb}

-- 48 to 57 are the digits
abbrev pub is_digit : ℕ → Bool
is_digit b = leb 48 b && leb b 57

-- a number, if it has 16 bits
abbrev pub narrowed : ℕ → Option ℕ
narrowed x = cond (ltb x 65536) (Some x) None

-- a number with one digit more
abbrev pub with_digit : ℕ → ℕ → Option ℕ
with_digit value b = cond (is_digit b) (narrowed (10 * value + (b - 48))) None

-- what goes on after a digit, if it was one
abbrev pub onward : Option ℕ → (ℕ → Option ℕ) → Option ℕ
onward None go = None
onward (Some value) go = go value

-- digits after a number
unfoldable pub with_digits : ℕ → List ℕ → Option ℕ
with_digits value [] = Some value
with_digits value (b ∷ rest) = onward (with_digit value b) (λ more. with_digits more rest)

abbrev pub number_of : List ℕ → Option ℕ
number_of [] = None
number_of (b ∷ rest) = with_digits 0 (b ∷ rest)
