-- How far a document is read: the place, and of what was read the numbers that later checks need.
use Rattle.std.specs.Prelude.{ℕ, ◌+◌, Bool, false}
use Rattle.documents.specs.declared.State.{State}

abbrev pub start : State
start = record { place = 0; growers = 0; pilots = 0; without = 0; none = false; cap = 0 }

-- The next place: with all that is known, with growers and pilots, with who has no hours, with a cap of a pair and whether somebody of it
-- has none.
abbrev pub passed : State → State
passed s = record {
  place = s.place + 1;
  growers = s.growers;
  pilots = s.pilots;
  without = s.without;
  none = s.none;
  cap = s.cap;
}

abbrev pub with_parties : State → ℕ → ℕ → State
with_parties s n m = record { place = s.place + 1; growers = n; pilots = m; without = s.without; none = s.none; cap = s.cap }

abbrev pub with_hours : State → ℕ → State
with_hours s without = record {
  place = s.place + 1;
  growers = s.growers;
  pilots = s.pilots;
  without = without;
  none = s.none;
  cap = s.cap;
}

abbrev pub with_cap : State → Bool → ℕ → State
with_cap s none cap = record {
  place = s.place + 1;
  growers = s.growers;
  pilots = s.pilots;
  without = s.without;
  none = none;
  cap = cap;
}
