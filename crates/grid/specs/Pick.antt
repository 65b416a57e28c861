-- A choice between two numbers by a test.
use Rattle.std.specs.Prelude.{Bool, true, false, ℕ}

abbrev pub pick : Bool → ℕ → ℕ → ℕ
pick true x y = x
pick false x y = y
