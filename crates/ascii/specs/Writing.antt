-- Bytes written into a page or a line.
-- Assumes nothing.
use Rattle.std.specs.Prelude.{ℕ, ◌+◌, ◌≡◌, List, length}
use Rattle.std.proofs.lemmas.List.Edits.{sets}

-- the bytes stand in the page from a place on, nothing else changed, and they end before the place `end`
pub record Wrote (page page' : List ℕ) (from end : ℕ) (bytes : List ℕ) : Type 0 where
  pub stored : page' ≡ sets page from bytes
  pub ends : end ≡ from + length bytes
