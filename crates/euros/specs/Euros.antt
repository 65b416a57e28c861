-- Prices in eighteenths of a euro, rounded down to whole euros after a number was added.
-- Assumes nothing.
use Rattle.std.specs.Prelude.{ℕ, ◌+◌, ◌/◌, ◌%◌, Bool, List, leb, eqb, get_or}
use Rattle.grid.specs.First.{first}

-- a price moved up by shift, in whole euros
abbrev pub euros_of : ℕ → ℕ → ℕ
euros_of price shift = (price + shift) / 18

-- the price, moved up by shift, is a whole number of euros
abbrev pub is_whole : List ℕ → ℕ → ℕ → Bool
is_whole prices shift j = eqb ((get_or prices j 0 + shift) % 18) 0

-- the first of m prices that is, else m
abbrev pub clash_of : List ℕ → ℕ → ℕ → ℕ
clash_of prices m shift = first (is_whole prices shift) m

-- none of m prices is
abbrev pub none_whole : List ℕ → ℕ → ℕ → Bool
none_whole prices m shift = leb m (clash_of prices m shift)

-- the first number below 17 that makes none of m prices whole, else 17
abbrev pub shift_of : List ℕ → ℕ → ℕ
shift_of prices m = first (none_whole prices m) 17
