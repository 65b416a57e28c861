-- What reading a text's numbers into a lent list answers, and leaves there.
-- Assumes nothing.
use Rattle.std.specs.Prelude.{ℕ, ◌≡◌, cond, List, Result, Ok, Err, leb, length}
use Rattle.std.proofs.lemmas.List.Edits.{sets}
use Rattle.lists.specs.declared.text.ListError.{ListError}
use Rattle.lists.specs.NumberText as text

-- The answer where `room` places are lent.
abbrev pub list_reply : ℕ → text.Listing → Result ℕ ListError
list_reply room (text.WrongLine line) = Err (ListError.Wrong line)
list_reply room (text.Listed xs) = cond (leb (length xs) room) (Ok (length xs)) (Err ListError.NoRoom)

-- The lent list after it: as it was, or with the numbers at its front.
abbrev pub list_kept : List ℕ → text.Listing → List ℕ
list_kept lent (text.WrongLine line) = lent
list_kept lent (text.Listed xs) = cond (leb (length xs) (length lent)) (sets lent 0 xs) lent

-- The answer of a walk over the whole text, whatever list is lent.
abbrev pub walk_reply : text.Listing → Result ℕ ListError
walk_reply (text.WrongLine line) = Err (ListError.Wrong line)
walk_reply (text.Listed xs) = Ok (length xs)

-- A walk stores what there is room for, and counts all: a store past a list's end changes nothing.
pub record Walked (l : text.Listing) (lent after : List ℕ) (r : Result ℕ ListError) : Type 0 where
  pub answer : r ≡ walk_reply l
  pub stored : (xs : List ℕ) → l ≡ text.Listed xs → after ≡ sets lent 0 xs
