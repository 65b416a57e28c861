-- The definition gives the digits that people write, of 0, 10, 500 and 50,000.
-- Assumes nothing.
use mathlib.Core.Path.{◌≡◌, refl}
use mathlib.Core.List.{[], ◌∷◌}
use Rattle.ascii.specs.Numeral.{numeral_in, numeral}

pub nought : numeral 0 ≡ 48 ∷ []
unfolding numeral_in
nought = refl

pub ten : numeral 10 ≡ 49 ∷ 48 ∷ []
unfolding numeral_in
ten = refl

pub five_hundred : numeral 500 ≡ 53 ∷ 48 ∷ 48 ∷ []
unfolding numeral_in
five_hundred = refl

pub fifty_thousand : numeral 50000 ≡ 53 ∷ 48 ∷ 48 ∷ 48 ∷ 48 ∷ []
unfolding numeral_in
fifty_thousand = refl
