-- Short texts and what they come to, computed from the definitions.
-- Assumes nothing.
use mathlib.Core.Path.{◌≡◌, refl}
use mathlib.Core.List.{[], ◌∷◌}
use Rattle.lists.specs.NumberText.{WrongLine, Listed, read_from, numbers_of}

-- `1 20#3`, end of the line, tab, `4`
pub numbers_and_comment : numbers_of (49 ∷ 32 ∷ 50 ∷ 48 ∷ 35 ∷ 51 ∷ 10 ∷ 9 ∷ 52 ∷ []) ≡ Listed (1 ∷ 20 ∷ 4 ∷ [])
unfolding read_from
numbers_and_comment = refl

-- 65535 is the largest number
pub largest : numbers_of (54 ∷ 53 ∷ 53 ∷ 51 ∷ 53 ∷ []) ≡ Listed (65535 ∷ [])
unfolding read_from
largest = refl

-- 65536, in the second line
pub too_large : numbers_of (49 ∷ 10 ∷ 54 ∷ 53 ∷ 53 ∷ 51 ∷ 54 ∷ []) ≡ WrongLine 2
unfolding read_from
too_large = refl

-- `1,2` is no list of numbers
pub comma : numbers_of (49 ∷ 44 ∷ 50 ∷ []) ≡ WrongLine 1
unfolding read_from
comma = refl
