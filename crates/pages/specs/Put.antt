-- Bytes put into a page: where they fit they stand there, and else nothing changes.
-- Assumes nothing.
use Rattle.std.specs.Prelude.{ℕ, ◌+◌, ◌≡◌, Bool, cond, List, leb, length}
use Rattle.std.proofs.lemmas.List.Edits.{sets}

-- from a place on the page has room for the bytes
abbrev pub has_room : List ℕ → ℕ → List ℕ → Bool
has_room page at bytes = leb (at + length bytes) (length page)

-- the page, and the place after what was put
abbrev pub put_at : List ℕ → ℕ → List ℕ → List ℕ
put_at page at bytes = cond (has_room page at bytes) (sets page at bytes) page

abbrev pub after_put : List ℕ → ℕ → List ℕ → ℕ
after_put page at bytes = cond (has_room page at bytes) (at + length bytes) at

pub record Put (page page' : List ℕ) (at end : ℕ) (bytes : List ℕ) : Type 0 where
  pub ends : end ≡ after_put page at bytes
  pub stands : page' ≡ put_at page at bytes
