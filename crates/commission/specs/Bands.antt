-- What the exchange takes of a pilot's pay: a rate on each band of it, added up and rounded once to the cent.
-- A list of bands is a list of numbers: upper bound in cents, rate in per mille, again and again.
-- Assumes nothing.
use Rattle.std.specs.Prelude.{ℕ, ◌+◌, ◌-◌, ◌*◌, ◌/◌, min, max, List, [], ◌∷◌}

-- The charge on the cents from low up to high, in thousandths of a cent. A rate above 1,000 counts as 1,000.
abbrev pub charged_between : ℕ → ℕ → ℕ → ℕ
charged_between low high rate = (high - low) * min 1000 rate

-- The charge on the cents of x above low, in thousandths of a cent. The last rate also holds past its bound; a bound that does not
-- rise leaves its band empty, and a bound without a rate charges nothing. So no list of numbers charges more than the pay.
unfoldable pub charged_from : ℕ → List ℕ → ℕ → ℕ
charged_from low [] x = 0
charged_from low (bound ∷ []) x = 0
charged_from low (bound ∷ rate ∷ []) x = charged_between low x rate
charged_from low (bound ∷ rate ∷ next ∷ rest) x =
    charged_between low (min x (max low bound)) rate + charged_from (max low bound) (next ∷ rest) x

-- What bands charge on x cents, in thousandths of a cent.
abbrev pub charged : List ℕ → ℕ → ℕ
charged bands x = charged_from 0 bands x

-- Thousandths of a cent `rounded to the cent, a half going up`.
abbrev pub rounded_cents : ℕ → ℕ
rounded_cents t = (t + 500) / 1000

-- `Of the first 200 euros it takes 65 per mille, of the next 600 it takes 42, of the rest 25`: so it is 42 up to 800 euros. The last
-- rate has no end, and its bound is the largest number of 32 bits.
abbrev pub exchange_bands : List ℕ
exchange_bands = 20000 ∷ 65 ∷ 80000 ∷ 42 ∷ 4294967295 ∷ 25 ∷ []

-- The commission on a pay, both in cents. `The three parts are added before rounding once`.
abbrev pub commission : ℕ → ℕ
commission x = rounded_cents (charged exchange_bands x)
