-- What reading a text answers, and what it leaves in the lent list; and what the private functions answer.
-- Assumes nothing.
use Rattle.std.specs.Prelude.{ℕ, ◌-◌, ◌≡◌, cond, List, Option, Some, None, Result, Ok, Err, leb, length, take}
use Rattle.std.proofs.lemmas.List.Edits.{sets}
use Rattle.layouts.specs.declared.reading.TextRead.{TextRead}
use Rattle.layouts.specs.declared.reading.TextError.{TextError}
use Rattle.lists.specs.declared.text.ListError.{ListError}
use Rattle.labels.specs.declared.places.Layout.{Layout}
use Rattle.layouts.specs.Reading.{NumberRead, NoNumber, NumberIs, Entries, Stopped, Whole, Document, DocumentIs, WrongLine, TooMuch}

-- Why a plain list was not read, as of a text.
abbrev pub text_error : ListError → TextError
text_error (ListError.Wrong line) = TextError.Wrong line
text_error ListError.NoRoom = TextError.NoRoom

-- A document of which so many numbers were read.
abbrev pub read_as : Layout → ℕ → TextRead
read_as l k = record { layout = l; count = k }

-- The answer where `room` places are lent.
abbrev pub read_reply : ℕ → Document → Result TextRead TextError
read_reply room (DocumentIs l xs) = cond (leb (length xs) room) (Ok (read_as l (length xs))) (Err TextError.NoRoom)
read_reply room (WrongLine line) = Err (TextError.Wrong line)
read_reply room TooMuch = Err TextError.TooLong

-- The lent list after it: as it was, or with the numbers at its front.
abbrev pub read_kept : List ℕ → Document → List ℕ
read_kept lent (DocumentIs l xs) = cond (leb (length xs) (length lent)) (sets lent 0 xs) lent
read_kept lent (WrongLine line) = lent
read_kept lent TooMuch = lent

-- What was read at the end of a text of n bytes, with places in place of what is left.
abbrev pub got_of : ℕ → NumberRead → Option (ℕ × ℕ)
got_of n NoNumber = None
got_of n (NumberIs x rest) = Some (x, n - length rest)

abbrev pub walked_of : ℕ → Entries → Result ℕ ℕ
walked_of n (Stopped rest) = Err (n - length rest)
walked_of n (Whole xs) = Ok (length xs)

-- A walk, and the list that it leaves.
pub record WalkedAs (n : ℕ) (e : Entries) (list : List ℕ) (r : Result ℕ ℕ) : Type 0 where
  pub answer : r ≡ walked_of n e
  pub stored : (xs : List ℕ) → e ≡ Whole xs → take (length xs) list ≡ xs
