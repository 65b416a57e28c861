-- The first place at which a test holds.
use Rattle.std.specs.Prelude.{◌≡◌, Bool, true, false, ℕ, zero, suc, ◌/◌, ◌%◌, ◌<◌, ◌≤◌}
use Rattle.grid.specs.Pick.{pick}

-- the test holds at no place below k
abbrev pub NoneBefore : (ℕ → Bool) → ℕ → Type 0
NoneBefore f k = (q : ℕ) → q < k → f q ≡ false

-- the first place below k at which the test holds, else k
unfoldable pub first : (ℕ → Bool) → ℕ → ℕ
first f zero = 0
first f (suc k) = pick (f 0) 0 (suc (first (λ p. f (suc p)) k))

-- the same, said of a place r
pub record IsFirst (f : ℕ → Bool) (k r : ℕ) : Type 0 where
  pub below : r ≤ k
  pub before : NoneBefore f r
  pub there : r < k → f r ≡ true

-- a test of (i, j, d), for two values of d, as a test of its place 2 * (i * m + j) + d
abbrev pub by_place : (ℕ → ℕ → ℕ → Bool) → ℕ → ℕ → Bool
by_place g m p = g (p / 2 / m) (p / 2 % m) (p % 2)
