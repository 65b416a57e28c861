-- A total that a loop adds up is a sum; and the lesser of two numbers.
-- Assumes nothing.
use Prim.Native.Nat.{ℕ, ◌+◌, ◌≤◌, ◌<◌, min}
use mathlib.Core.Path.{◌≡◌, sym, ap, ◌∙◌}
use native.Mathlib.Omega.{arith}
use Rattle.grid.specs.Sum.{sum}
use Rattle.grid.proofs.Sums.{sum-none, sum_more}

pub total_none : (f : ℕ → ℕ) → 0 ≡ sum f 0
total_none f = sym (sum-none f)

pub total_more : (f : ℕ → ℕ) (k total x : ℕ) → total ≡ sum f k → x ≡ f k → total + x ≡ sum f (k + 1)
total_more f k total x e d = omega (arith, sum_more f k)

pub total_end : (f : ℕ → ℕ) (k l total : ℕ) → l ≡ k → total ≡ sum f l → total ≡ sum f k
total_end f k l total e h = h ∙ ap (sum f) e

pub least_of : (r x y : ℕ) → r ≡ min x y → (r ≤ x) × (r ≤ y) × (0 < x → 0 < y → 0 < r)
least_of r x y e = (omega (arith, e), omega (arith, e), λ p q. omega (arith, e, p, q))
