-- Squares of numbers, growers by pilots, of which a step changes one cell.
-- Assumes nothing.
use Rattle.std.specs.Prelude.{ℕ, ◌+◌, ◌≡◌, eqb}
use Rattle.grid.specs.Pick.{pick}
use Rattle.market.specs.Method.{by_tariff, old_free, new_free, Held}

-- the held hours in three squares
abbrev pub in_squares : (ℕ → ℕ → ℕ) → (ℕ → ℕ → ℕ) → (ℕ → ℕ → ℕ) → Held
in_squares f g h by_tariff = f
in_squares f g h old_free = g
in_squares f g h new_free = h

-- the square f with v in the cell i j
abbrev pub set_cell : (ℕ → ℕ → ℕ) → ℕ → ℕ → ℕ → ℕ → ℕ → ℕ
set_cell f i j v k l = pick (eqb k i) (pick (eqb l j) v (f k l)) (f k l)

-- g is f with x more in the cell i j
pub record MoreIn (f g : ℕ → ℕ → ℕ) (i j x : ℕ) : Type 0 where
  pub there : g i j ≡ f i j + x
  pub rest : (k l : ℕ) → (k ≡ i → l ≡ j → ⊥) → g k l ≡ f k l
