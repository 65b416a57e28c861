-- Rows and squares of numbers, as a contract sees an array `[u16; 16]` and `[[u16; 16]; 16]`: lists, and lists of lists.
use Rattle.std.specs.Prelude.{◌≡◌, List, [], ℕ, ◌<◌, length, get_or, set}

abbrev pub Grid : Type 0
Grid = List (List ℕ)

-- the cell (i, j); 0 outside
abbrev pub at : Grid → ℕ → ℕ → ℕ
at q i j = get_or (get_or q i []) j 0

-- q with v at (i, j)
abbrev pub put : Grid → ℕ → ℕ → ℕ → Grid
put q i j v = set q i (set (get_or q i []) j v)

-- what a value of `[u16; 16]` is known to be
pub record Row (r : List ℕ) : Type 0 where
  pub long : length r ≡ 16
  pub small : (j : ℕ) → get_or r j 0 < 65536

-- what a value of `[[u16; 16]; 16]` is known to be
pub record Square (q : Grid) : Type 0 where
  pub high : length q ≡ 16
  pub wide : (i : ℕ) → i < 16 → length (get_or q i []) ≡ 16
  pub small : (i j : ℕ) → at q i j < 65536
