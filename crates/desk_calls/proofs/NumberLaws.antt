-- Laws of numbers in digits: one digit after another.
-- Assumes nothing.
use Prim.Native.Nat.{ℕ, ◌+◌, ◌≤◌, ◌<◌}
use mathlib.Core.Path.{◌≡◌, refl}
use mathlib.Core.List.{List, [], ◌∷◌}
use native.Mathlib.Omega.{arith}
use native.Mathlib.Numerals.{add-one}
use mathlib.Core.Bool.{false, true≢false}
use lib.Dec.{eqb}
use lib.ListN.{length, get_or, drop, drop_of_length-le}
use lib.Seq.{drop-cons}
use Rattle.std.specs.Prelude.{Some, None}
use Rattle.desk_calls.specs.Numbers.{with_digit, with_digits, number_of}

-- the digit at a place, and then those after it
pub digit_next : (word : List ℕ) (value next k : ℕ) → k < length word → Some next ≡ with_digit value (get_or word k 0) →
    with_digits value (drop k word) ≡ with_digits next (drop (k + 1) word)
unfolding with_digits
digit_next word value next k h e = rw (add-one k, drop-cons word k 0 h, ← e)

-- what is no digit more
pub digit_none : (word : List ℕ) (value k : ℕ) → k < length word → None ≡ with_digit value (get_or word k 0) →
    with_digits value (drop k word) ≡ None
unfolding with_digits
digit_none word value k h e = rw (drop-cons word k 0 h, ← e)

-- after the last digit
pub digits_end : (word : List ℕ) (value k : ℕ) → length word ≤ k → with_digits value (drop k word) ≡ Some value
unfolding with_digits
digits_end word value k h = rw (drop_of_length-le word {i = k} h)

-- a word that is not empty spells its digits
pub digits_spell : (word : List ℕ) → 0 < length word → with_digits 0 word ≡ number_of word
digits_spell [] h = absurd (omega arith)
digits_spell (b ∷ rest) h = refl

pub filled : (word : List ℕ) → eqb (length word) 0 ≡ false → 0 < length word
filled [] h = absurd (true≢false h)
filled (b ∷ rest) h = omega arith

pub nothing_spelt : (word : List ℕ) → length word ≡ 0 → number_of word ≡ None
nothing_spelt [] h = refl
nothing_spelt (b ∷ rest) h = absurd (omega arith)
