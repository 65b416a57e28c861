-- Products of numbers in range.
-- Assumes nothing.
use Prim.Native.Nat.{ℕ, ◌*◌, ◌≤◌}
use native.Mathlib.Nat.{mul-le-mul}

pub prod_small : (a b : ℕ) → a ≤ 16 → b ≤ 16 → a * b ≤ 256
prod_small a b ha hb = mul-le-mul ha hb
