-- A row and a square of zeros.
use mathlib.Core.Path.{◌≡◌, refl}
use mathlib.Core.List.{List, []}
use Prim.Native.Nat.{ℕ, zero, suc, ◌<◌}
use native.Mathlib.Omega.{arith}
use lib.ListN.{length, get_or, replicate, get_or-replicate}
use Rattle.grid.specs.Grid.{at, Row, Square}

pub zero_row : (n j : ℕ) → ◌≡◌ {A = ℕ} (get_or (replicate n 0) j 0) 0
zero_row zero j = refl
zero_row (suc n) zero = refl
zero_row (suc n) (suc j) = zero_row n j

pub zero_grid : (n m i j : ℕ) → at (replicate n (replicate m 0)) i j ≡ 0
zero_grid zero m i j = refl
zero_grid (suc n) m zero j = zero_row m j
zero_grid (suc n) m (suc i) j = zero_grid n m i j

zero_rows : (n i : ℕ) → i < n → length {A = ℕ} (get_or (replicate n (replicate 16 0)) i []) ≡ 16
zero_rows n i h = let r : List ℕ = replicate 16 0 in rw (get_or-replicate n i r [] h)

pub zero-line : Row (replicate 16 0)
zero-line = record { long = refl; small = λ j. omega (arith, zero_row 16 j) }

pub zero_square : Square (replicate 16 (replicate 16 0))
zero_square = record { high = refl; wide = zero_rows 16; small = λ i j. omega (arith, zero_grid 16 16 i j) }
