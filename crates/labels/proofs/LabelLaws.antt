-- How long words and numbers are.
-- Assumes nothing.
use mathlib.Core.Path.{◌≡◌, refl}
use mathlib.Core.Logic.{⊎_elim}
use mathlib.Core.List.{List, [], ◌∷◌, ◌++◌}
use Prim.Native.Nat.{ℕ, zero, suc, ◌+◌, ◌/◌, ◌%◌, ◌^◌, ◌<◌, ◌≤◌}
use native.Mathlib.Nat.{eq-zero-or-pos, pow-suc}
use native.Mathlib.Omega.{arith}
use lib.ListN.{length, length-append}
use Rattle.ascii.specs.Decimal.{digit}
use Rattle.ascii.specs.Numeral.{numeral}
use Rattle.ascii.specs.Writing.{Wrote}
use Rattle.pages.specs.Put.{Put}
use Rattle.pages.proofs.PutLaws.{put-within}
use Rattle.ascii.proofs.NumeralLaws.{one-digit, more_digits}
use Rattle.labels.specs.Words.{joined}

-- a number below a power of ten has so many digits at most
pub numeral_short : (k n : ℕ) → n < 10 ^ suc k → length (numeral n) ≤ suc k
numeral_short zero n h = rw (one-digit n (omega arith)) (omega arith)
numeral_short (suc k) n h = ⊎_elim
    (λ l. rw (one-digit n (omega arith)) (omega arith))
    (λ g. let d = digit (n % 10) ∷ [] in
    rw (more_digits n (omega arith)) (omega (arith, length-append (numeral (n / 10)) d, numeral_short k (n / 10) (omega (arith, pow-suc 10 (suc k))))))
    (eq-zero-or-pos (n / 10))

-- every number of 64 bits has at most 20
pub numeral-word : (n : ℕ) → n < 18446744073709551616 → length (numeral n) ≤ 20
numeral-word n h = numeral_short 19 n (omega arith)

-- words that are parted from the next
pub joined-none : (words between : List ℕ) → length words ≡ 0 → joined words between ≡ []
joined-none [] between e = refl
joined-none (c ∷ words) between e = absurd (omega (arith, e))

pub joined_some : (words between : List ℕ) → 0 < length words → joined words between ≡ words ++ between
joined_some [] between h = absurd (omega (arith, h))
joined_some (c ∷ words) between h = refl

pub none_at_all : (words : List ℕ) → length words ≡ 0 → words ≡ []
none_at_all [] e = refl
none_at_all (c ∷ words) e = absurd (omega (arith, e))

-- A number that was put, if there was room for twenty digits.
pub number_put : {page page' : List ℕ} {at end n : ℕ} → Put page page' at end (numeral n) → n < 18446744073709551616 →
    at + 20 ≤ length page → Wrote page page' at end (numeral n) × (end ≤ at + 20)
number_put {page} {page'} {at} {end} {n} p h room = put-within p 20 (numeral-word n h) room
