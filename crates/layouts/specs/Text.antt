-- The text of a document's list: each number after its label, and a line for each party and each pair.
-- Assumes nothing.
use Rattle.std.specs.Prelude.{ℕ, zero, suc, ◌*◌, Bool, cond, ◌||◌, List, [], ◌∷◌, ◌++◌, leb, length, get_or, take}
use Rattle.ascii.specs.Numeral.{numeral}
use Rattle.labels.specs.declared.places.Layout.{Layout}
use Rattle.labels.specs.Words.{label, begins}

-- after a number: the end of its line, or a blank
abbrev pub separator : Bool → List ℕ
separator ends = cond ends (10 ∷ []) (32 ∷ [])

-- the number x at place p of a document with n growers and m pilots
abbrev pub entry_of : Layout → ℕ → ℕ → ℕ → ℕ → Bool → List ℕ
entry_of l n m p x ends = label l n m p ++ (numeral x ++ separator ends)

-- The growers and pilots that a list names.
abbrev pub growers_in : List ℕ → ℕ
growers_in xs = get_or xs 1 0

abbrev pub pilots_in : List ℕ → ℕ
pilots_in xs = get_or xs 2 0

-- The number at place p is the last of its line: no other follows, or the next begins one.
abbrev pub ends_line : Layout → List ℕ → ℕ → Bool
ends_line l xs p = leb (length xs) (suc p) || begins l (growers_in xs) (pilots_in xs) (suc p)

abbrev pub entry_at : Layout → List ℕ → ℕ → List ℕ
entry_at l xs p = entry_of l (growers_in xs) (pilots_in xs) p (get_or xs p 0) (ends_line l xs p)

-- the text of the first k numbers, and of all
unfoldable pub text_to : Layout → List ℕ → ℕ → List ℕ
text_to l xs zero = []
text_to l xs (suc k) = text_to l xs k ++ entry_at l xs k

abbrev pub text_of : Layout → List ℕ → List ℕ
text_of l xs = text_to l xs (length xs)

-- No document has more numbers.
abbrev pub longest : ℕ
longest = 1315

abbrev pub document_text : Layout → List ℕ → List ℕ
document_text l xs = text_of l (take longest xs)

-- A label has at most 64 bytes, a number 20.
abbrev pub entry_bytes : ℕ
entry_bytes = 85

abbrev pub page_bytes : ℕ
page_bytes = longest * entry_bytes
