-- Sums of numbers.
use Rattle.std.specs.Prelude.{ℕ, zero, suc, ◌+◌}

-- f 0 + f 1 + .. + f (k - 1)
unfoldable pub sum : (ℕ → ℕ) → ℕ → ℕ
sum f zero = 0
sum f (suc k) = sum f k + f k

-- the sum over a square of k rows and l columns
abbrev pub sum_square : (ℕ → ℕ → ℕ) → ℕ → ℕ → ℕ
sum_square f k l = sum (λ x. sum (f x) l) k
