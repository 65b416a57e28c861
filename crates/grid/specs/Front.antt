-- A buffer whose front was written.
use Rattle.std.specs.Prelude.{List, ◌++◌, ℕ, take, drop}

-- the first n numbers are those of w, the others those of o
abbrev pub front : List ℕ → ℕ → List ℕ → List ℕ
front w n o = take n w ++ drop n o
