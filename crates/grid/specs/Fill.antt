-- A row that is filled as far as n numbers reach, and a square as far as n rows and m columns.
use Rattle.std.specs.Prelude.{◌≡◌, ◌⊎◌, List, ℕ, ◌<◌, ◌≤◌, get_or}
use Rattle.grid.specs.Grid.{Grid, at, Row, Square}

-- val i j in the cell (i, j) for i < n and j < m, and 0 elsewhere
pub record Filled (val : ℕ → ℕ → ℕ) (n m : ℕ) (q : Grid) : Type 0 where
  pub square : Square q
  pub inner : (i j : ℕ) → i < n → j < m → at q i j ≡ val i j
  pub outer : (i j : ℕ) → (n ≤ i) ⊎ (m ≤ j) → at q i j ≡ 0

-- the same in a square that held something before: elsewhere it stands as it stood
pub record FilledOver (before : Grid) (val : ℕ → ℕ → ℕ) (n m : ℕ) (q : Grid) : Type 0 where
  pub square : Square q
  pub inner : (i j : ℕ) → i < n → j < m → at q i j ≡ val i j
  pub outer : (i j : ℕ) → (n ≤ i) ⊎ (m ≤ j) → at q i j ≡ at before i j

-- val i at the place i for i < n, and 0 elsewhere
pub record FilledRow (val : ℕ → ℕ) (n : ℕ) (r : List ℕ) : Type 0 where
  pub row : Row r
  pub inner : (i : ℕ) → i < n → get_or r i 0 ≡ val i
  pub outer : (i : ℕ) → n ≤ i → get_or r i 0 ≡ 0
