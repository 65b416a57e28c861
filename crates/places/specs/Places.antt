-- Where a refusal of a document is: the first number with which what was read so far is refused for more than ending early.
-- Assumes nothing.
use Rattle.std.specs.Prelude.{Bool, false, not, List, [], ◌∷◌, ℕ, zero, suc, length, take, Ok, Err}
use Rattle.grid.specs.First.{first}
use Rattle.checks.specs.declared.refusals.Document.{Document}
use Rattle.checks.specs.declared.refusals.Refusal.{Refusal}
use Rattle.checks.specs.Refusals.{refusals_of, same}
use Rattle.groups.specs.Groups.{Read, Number, Ends, TooLong, Padded, bytes, pack}
use Rattle.documents.specs.Walk.{Outcome, read_head, form}
use Rattle.documents.specs.Layout.{form_of}

-- It is refused, and not because it ends early.
abbrev pub refused_otherwise : Refusal → Outcome → Bool
refused_otherwise early (Err w) = not (same w early)
refused_otherwise early (Ok xs) = false

-- A beginning of a list is faulty.
abbrev pub faulty : Document → List ℕ → Bool
faulty p l = refused_otherwise (refusals_of p).ends (form (form_of p) read_head l)

-- The beginning that ends with the number at a place is.
abbrev pub faulty_at : Document → List ℕ → ℕ → Bool
faulty_at p l k = faulty p (take (suc k) l)

-- The place of the first fault of a list, numbers counted from 0; the length of the list if there is none.
abbrev pub place_in : Document → List ℕ → ℕ
place_in p l = first (faulty_at p l) (length l)

-- The numbers that can be read from bytes one after another, k at most.
abbrev pub number_then : Read → (List ℕ → List ℕ) → List ℕ
number_then (Number x rest) go = x ∷ go rest
number_then Ends go = []
number_then TooLong go = []
number_then Padded go = []

unfoldable pub numbers_in : ℕ → List ℕ → List ℕ
numbers_in zero s = []
numbers_in (suc k) s = number_then (bytes s) (λ rest. numbers_in k rest)

-- One more than the longest ticket has.
abbrev pub most_numbers : ℕ
most_numbers = 1316

-- The same of bytes.
abbrev pub numbers_at_front : List ℕ → List ℕ
numbers_at_front s = numbers_in most_numbers s

abbrev pub number_of : Document → List ℕ → ℕ
number_of p s = place_in p (numbers_at_front s)

-- Where a number begins: after the bytes of those before it.
abbrev pub beginning_of : List ℕ → ℕ → ℕ
beginning_of s number = length (pack (take number (numbers_at_front s)))
