-- The rounding of prices: a price v, moved up by r and rounded down to euros. And that for sixteen pilots a good r exists.
-- Assumes nothing.
use Prim.Native.Nat.{ℕ, zero, suc, ◌+◌, ◌*◌, ◌-◌, ◌/◌, ◌%◌, ◌≤◌}
use mathlib.Core.Path.{◌≡◌}
use mathlib.Core.Logic.{◌≢◌}
use native.Mathlib.Omega.{arith}
use Rattle.grid.specs.Sum.{sum}
use Rattle.market.specs.Market.{Ticket}
use Rattle.market.specs.Method.{GoodShift}
use Rattle.grid.proofs.Sums.{sum_le, sum_ones, sum_swap, no_term}
use Rattle.market.proofs.Finding.{some_zero}

-- an order that fails by one is mended
pub round_order : (r v x w y : ℕ) → (v + r) % 18 ≢ 0 → v + 18 * x ≤ w + 18 * y + 1 → (v + r) / 18 + x ≤ (w + r) / 18 + y
round_order r v x w y apart h = omega arith

-- how many of the numbers x .. x + k - 1 are multiples of 18
multiples : (x k : ℕ) → (x + 17) / 18 + sum (λ r. 1 - (x + r) % 18) k ≡ (x + k + 17) / 18
unfolding sum
multiples x zero = omega arith
multiples x (suc k) = omega (arith, multiples x k)

-- Each pilot rules out at most one of the numbers 0 .. 16, so sixteen pilots leave one.
pub good_shift : (t : Ticket) (price : ℕ → ℕ) → t.pilots ≤ 16 → (r : ℕ) × GoodShift t price r
good_shift t price few =
    let bad : ℕ → ℕ → ℕ = λ r j. 1 - (price j + r) % 18 in
    let each : sum (λ j. sum (λ r. bad r j) 17) t.pilots ≤ sum (λ j. 1) t.pilots =
    sum_le _ _ t.pilots (λ j h. omega (arith, multiples (price j) 17)) in
    let z = some_zero (λ r. sum (bad r) t.pilots) 17 (omega (arith, sum_swap bad 17 t.pilots, sum_ones t.pilots)) in (
      z.0,
      record {
        small = omega arith;
        apart = λ j h. omega (arith, no_term (bad z.0) t.pilots j z.2 h);
      },
    )
