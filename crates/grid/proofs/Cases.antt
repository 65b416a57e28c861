-- Two numbers compared, and what holds at one place and at every other: the ways to go on in a proof.
use mathlib.Core.Path.{◌≡◌, sym, subst}
use mathlib.Core.Logic.{⊎_elim, ◌⊎◌, inl, inr}
use Prim.Native.Nat.{ℕ, zero, suc, ◌≤◌, ◌<◌, zero-le, suc-le-suc}
use native.Mathlib.Nat.{eq-or-lt_of_le}
use native.Mathlib.Omega.{arith}

pub lt_or_le : (a b : ℕ) → (a < b) ⊎ (b ≤ a)
lt_or_le a zero = inr zero-le
lt_or_le zero (suc b) = inl (suc-le-suc zero-le)
lt_or_le (suc a) (suc b) = ⊎_elim (λ p. inl (suc-le-suc p)) (λ q. inr (suc-le-suc q)) (lt_or_le a b)

-- two constructors that were equal would make 0 and 1 equal
pub never : {A : Type 0} → ◌≡◌ {A = ℕ} 0 1 → A
never e = absurd (omega arith)

pub eq_or_ne : (a b : ℕ) → (a ≡ b) ⊎ (a ≡ b → ⊥)
eq_or_ne a b =
    ⊎_elim (λ p. inr (λ e. omega arith)) (λ q. ⊎_elim (λ e. inl (omega arith)) (λ p. inr (λ e. omega arith)) (eq-or-lt_of_le q))
    (lt_or_le a b)

-- what holds at i, and at every other number, holds at each
pub by_index : (P : ℕ → Type 0) (i : ℕ) → P i → ((k : ℕ) → (k ≡ i → ⊥) → P k) → (k : ℕ) → P k
by_index P i here other k = ⊎_elim (λ e. subst P (sym e) here) (λ n. other k n) (eq_or_ne k i)

-- what holds at the cell (i, j), and at every other cell, holds at each
pub by_cell : (P : ℕ → ℕ → Type 0) (i j : ℕ) → P i j → ((a b : ℕ) → ((a ≡ i) × (b ≡ j) → ⊥) → P a b) → (a b : ℕ) → P a b
by_cell P i j here other =
    by_index (λ a. (b : ℕ) → P a b) i (by_index (λ b. P i b) j here (λ b n. other i b (λ e. n e.1))) (λ a n b. other a b (λ e. n e.0))
