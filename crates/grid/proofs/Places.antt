-- The arithmetic of places, which is not linear: pairs counted row by row, and two deals of each.
use mathlib.Core.Path.{◌≡◌, ◌∙◌}
use mathlib.Core.Bool.{Bool}
use Prim.Native.Nat.{ℕ, zero, suc, ◌+◌, ◌*◌, ◌/◌, ◌%◌, ◌<◌, ◌≤◌}
use native.Mathlib.Nat.{mul-add-div_right, mul-add-mod_self_right, mod-eq_of_lt, div-eq_of_lt, mul-le-mul_right, add-mul}
use native.Mathlib.Nat.{div-lt_iff_lt-mul, mod-lt}
use native.Mathlib.Numerals.{add-one-le}
use native.Mathlib.Omega.{arith}
use Rattle.grid.specs.First.{by_place}

half : (x d : ℕ) → d < 2 → (2 * x + d) / 2 ≡ x
half x d h = omega arith

odd : (x d : ℕ) → d < 2 → (2 * x + d) % 2 ≡ d
odd x d h = omega arith

quot : (m i j : ℕ) → j < m → (i * m + j) / m ≡ i
quot m i j h = mul-add-div_right {m = m} (omega arith) i j ∙ omega (arith, div-eq_of_lt h)

rest : (m i j : ℕ) → j < m → (i * m + j) % m ≡ j
rest m i j h = mul-add-mod_self_right i m j ∙ mod-eq_of_lt h

-- the grower, the pilot and the deal of a place
pub deal_place : (m i j d : ℕ) → j < m → d < 2 → let p = 2 * (i * m + j) + d in (p / 2 / m ≡ i) × (p / 2 % m ≡ j) × (p % 2 ≡ d)
deal_place m i j d hj hd =
    (rw (half (i * m + j) d hd) (quot m i j hj), rw (half (i * m + j) d hd) (rest m i j hj), odd (i * m + j) d hd)

pub at_place : (g : ℕ → ℕ → ℕ → Bool) (m i j d : ℕ) → j < m → d < 2 → by_place g m (2 * (i * m + j) + d) ≡ g i j d
at_place g m i j d hj hd = let e = deal_place m i j d hj hd in rw (e.0, e.1, e.2)

pub row_next : (i m : ℕ) → (i + 1) * m ≡ i * m + m
row_next i m = omega (arith, add-mul i 1 m)

pub row_within : (i n m : ℕ) → i < n → i * m + m ≤ n * m
row_within i n m h = omega (arith, add-mul i 1 m, mul-le-mul_right m (add-one-le h))

-- the grower and the pilot of a place are within the market
pub record Within (n m p : ℕ) : Type 0 where
  pub some : 0 < m
  pub grower : p / 2 / m < n
  pub pilot : p / 2 % m < m

pub within : (n m p : ℕ) → p < 2 * (n * m) → Within n m p
within n zero p h = absurd (omega arith)
within n (suc m) p h = record {
  some = omega arith;
  grower = (div-lt_iff_lt-mul {k = suc m} {x = p / 2} {y = n} (omega arith)).1 (omega arith);
  pilot = mod-lt (p / 2) (omega arith);
}

-- the same where a place is i * m + j
pub record Inside (n m p : ℕ) : Type 0 where
  pub some : 0 < m
  pub grower : p / m < n
  pub pilot : p % m < m

pub inside : (n m p : ℕ) → p < n * m → Inside n m p
inside n zero p h = absurd (omega arith)
inside n (suc m) p h = record {
  some = omega arith;
  grower = (div-lt_iff_lt-mul {k = suc m} {x = p} {y = n} (omega arith)).1 h;
  pilot = mod-lt p (omega arith);
}

pub cell_place : (m i j : ℕ) → j < m → ((i * m + j) / m ≡ i) × ((i * m + j) % m ≡ j)
cell_place m i j h = (quot m i j h, rest m i j h)
