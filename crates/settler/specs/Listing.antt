-- A settlement as a list of numbers, in the order of its file.
-- Assumes nothing.
use Rattle.std.specs.Prelude.{ℕ, zero, suc, ◌+◌, ◌*◌, ◌≤◌, ◌<◌, ◌≡◌, List, get_or, length}
use Rattle.grid.specs.Grid.{Grid, at}

-- the first, the second or the third of three numbers
abbrev pub nth : ℕ → ℕ → ℕ → ℕ → ℕ
nth x y z zero = x
nth x y z (suc zero) = y
nth x y z (suc (suc k)) = z

-- a list with room for every settlement, in which nothing is written
pub record Blank (l : List ℕ) : Type 0 where
  pub long : length l ≡ 771
  pub zeros : (p : ℕ) → get_or l p 0 ≡ 0

-- three numbers were written into a list from a place on, and nothing else changed
pub record Written (l l' : List ℕ) (place x y z : ℕ) : Type 0 where
  pub long : length l' ≡ length l
  pub there : (k : ℕ) → k < 3 → get_or l' (place + k) 0 ≡ nth x y z k
  pub before : (p : ℕ) → p < place → get_or l' p 0 ≡ get_or l p 0
  pub after : (p : ℕ) → place + 2 < p → get_or l' p 0 ≡ get_or l p 0

-- the tariff hours, the free-deal hours or the pay of a pair
abbrev pub number_of : Grid → Grid → Grid → ℕ → ℕ → ℕ → ℕ
number_of tariff_hours free_deal_hours pay k i j = nth (at tariff_hours i j) (at free_deal_hours i j) (at pay i j) k

-- kind 2, growers and pilots; then, for every pair in the ticket's order, tariff hours, free-deal hours and pay; then zeros
pub record Listed (n m : ℕ) (tariff_hours free_deal_hours pay : Grid) (l : List ℕ) : Type 0 where
  pub head : (k : ℕ) → k < 3 → get_or l k 0 ≡ nth 2 n m k
  pub pairs : (k i j : ℕ) → k < 3 → i < n → j < m → get_or l (3 + 3 * (i * m + j) + k) 0 ≡ number_of tariff_hours free_deal_hours pay k i j
  pub rest : (p : ℕ) → 3 + 3 * (n * m) ≤ p → get_or l p 0 ≡ 0
