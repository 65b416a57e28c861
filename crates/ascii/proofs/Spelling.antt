-- Three digits without leading zeros, by cases.
-- Assumes nothing.
use mathlib.Core.Path.{◌≡◌, refl}
use mathlib.Core.List.{[], ◌∷◌}
use Prim.Native.Nat.{ℕ, zero, suc, ◌/◌, ◌%◌, ◌≤◌}
use native.Mathlib.Omega.{arith}
use lib.ListN.{length}
use Rattle.ascii.specs.Decimal.{digit, spelled, decimal}

module _ (h t u : ℕ) where
  pub units_alone : (b : ℕ) → h ≡ 0 → t ≡ 0 → b ≡ digit u → b ∷ [] ≡ spelled h t u
  units_alone b eh et e = rw (eh, et, e)

  pub tens_first : (a b : ℕ) → h ≡ 0 → (t ≡ 0 → ⊥) → a ≡ digit t → b ≡ digit u → a ∷ b ∷ [] ≡ spelled h t u
  tens_first a b eh n ea eb = rw (eh, ea, eb) (go t n)
    where
      go : (t : ℕ) → (t ≡ 0 → ⊥) → digit t ∷ digit u ∷ [] ≡ spelled 0 t u
      go zero n = absurd (n refl)
      go (suc t) n = refl

  pub hundreds_first : (x a b : ℕ) → (h ≡ 0 → ⊥) → x ≡ digit h → a ≡ digit t → b ≡ digit u → x ∷ a ∷ b ∷ [] ≡ spelled h t u
  hundreds_first x a b n ex ea eb = rw (ex, ea, eb) (go h n)
    where
      go : (h : ℕ) → (h ≡ 0 → ⊥) → digit h ∷ digit t ∷ digit u ∷ [] ≡ spelled h t u
      go zero n = absurd (n refl)
      go (suc h) n = refl

  pub at_most_three : length (spelled h t u) ≤ 3
  at_most_three = go h t
    where
      go : (h t : ℕ) → length (spelled h t u) ≤ 3
      go zero zero = omega arith
      go zero (suc t) = omega arith
      go (suc h) t = omega arith

pub decimal_short : (n : ℕ) → length (decimal n) ≤ 3
unfolding decimal
decimal_short n = at_most_three (n / 100) (n / 10 % 10) (n % 10)

pub decimal_is : (n : ℕ) → spelled (n / 100) (n / 10 % 10) (n % 10) ≡ decimal n
unfolding decimal
decimal_is n = refl
