-- The laws of the first place at which a test holds. A search cites `first_is`, its callers `first-first`.
use mathlib.Core.Path.{◌≡◌, refl, ap}
use mathlib.Core.Bool.{Bool, true, false}
use Prim.Native.Nat.{ℕ, zero, suc, ◌+◌, ◌<◌, ◌≤◌, zero-le, suc-le-suc}
use native.Mathlib.Nat.{not-suc-le-zero, le_of_suc-le-suc}
use native.Mathlib.Omega.{arith}
use borrow.Author.Count.{below_more, below_none}
use Rattle.grid.specs.Pick.{pick}
use Rattle.grid.specs.First.{NoneBefore, first, IsFirst}

pub none-zero : (f : ℕ → Bool) → NoneBefore f 0
none-zero f = below_none (λ q. f q ≡ false)

pub none_more : (f : ℕ → Bool) (k : ℕ) → NoneBefore f k → f k ≡ false → NoneBefore f (k + 1)
none_more f k n e = below_more (λ q. f q ≡ false) k n e

pub none_le : (f : ℕ → Bool) (k l : ℕ) → NoneBefore f k → l ≤ k → NoneBefore f l
none_le f k l n h = λ q a. n q (omega arith)

-- a place before which there is none, and at which the test holds unless it is k, is the first
pub first_is : (f : ℕ → Bool) (k r : ℕ) → r ≤ k → NoneBefore f r → (r < k → f r ≡ true) → first f k ≡ r
unfolding first
first_is f zero r l n h = omega arith
first_is f (suc k) zero l n h = rw (h (omega arith))
first_is f (suc k) (suc r) l n h =
    rw (n 0 (omega arith))
    (ap suc (first_is (λ p. f (suc p)) k r (le_of_suc-le-suc l) (λ q a. n (suc q) (omega arith)) (λ a. h (omega arith))))

no_sooner : (f : ℕ → Bool) (r : ℕ) → f 0 ≡ false → NoneBefore (λ p. f (suc p)) r → NoneBefore f (suc r)
no_sooner f r e n zero h = e
no_sooner f r e n (suc q) h = n q (le_of_suc-le-suc h)

one_more : (f : ℕ → Bool) (k r : ℕ) (b : Bool) → f 0 ≡ b → IsFirst (λ p. f (suc p)) k r → IsFirst f (suc k) (pick b 0 (suc r))
one_more f k r true e s = record { below = zero-le; before = none-zero f; there = λ _. e }
one_more f k r false e s = record {
  below = suc-le-suc s.below;
  before = no_sooner f r e s.before;
  there = λ h. s.there (le_of_suc-le-suc h);
}

pub first-first : (f : ℕ → Bool) (k : ℕ) → IsFirst f k (first f k)
unfolding first
first-first f zero = record { below = zero-le; before = none-zero f; there = λ h. absurd (not-suc-le-zero h) }
first-first f (suc k) = one_more f k (first (λ p. f (suc p)) k) (f 0) refl (first-first (λ p. f (suc p)) k)
