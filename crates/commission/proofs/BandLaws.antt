-- No bands charge more than the pay.
-- Assumes nothing.
use mathlib.Core.List.{List, [], ◌∷◌}
use Prim.Native.Nat.{ℕ, ◌-◌, ◌*◌, ◌≤◌, min, max}
use native.Mathlib.Nat.{mul-le-mul_left}
use native.Mathlib.Omega.{arith}
use Rattle.commission.specs.Bands.{charged_between, charged_from, charged, exchange_bands, commission}

pub between_at_most : (low high rate : ℕ) → charged_between low high rate ≤ 1000 * (high - low)
between_at_most low high rate =
    let h : min 1000 rate ≤ 1000 = omega arith in omega (arith, mul-le-mul_left (high - low) h)

from_at_most : (low : ℕ) (bands : List ℕ) (x : ℕ) → charged_from low bands x ≤ 1000 * (x - low)
unfolding charged_from
from_at_most low [] x = omega arith
from_at_most low (bound ∷ []) x = omega arith
from_at_most low (bound ∷ rate ∷ []) x = between_at_most low x rate
from_at_most low (bound ∷ rate ∷ next ∷ rest) x =
    omega (arith, between_at_most low (min x (max low bound)) rate, from_at_most (max low bound) (next ∷ rest) x)

pub charged-at_most : (bands : List ℕ) (x : ℕ) → charged bands x ≤ 1000 * x
charged-at_most bands x = omega (arith, from_at_most 0 bands x)

pub commission-at_most : (x : ℕ) → commission x ≤ x
commission-at_most x = omega (arith, charged-at_most exchange_bands x)
