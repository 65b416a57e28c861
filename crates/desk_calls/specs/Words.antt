-- The words of a line. Blanks part them: spaces, tabs and carriage returns.
-- Assumes nothing.
use Rattle.std.specs.Prelude.{ℕ, zero, suc, Bool, not, ◌||◌, List, eqb, take, drop}
use Rattle.std.specs.List.{position_or_len}

abbrev pub blank : ℕ → Bool
blank b = eqb b 32 || (eqb b 9 || eqb b 13)

-- how many blanks a text begins with, and how many other bytes
abbrev pub blanks : List ℕ → ℕ
blanks text = position_or_len (λ b. not (blank b)) text

abbrev pub letters : List ℕ → ℕ
letters text = position_or_len blank text

-- a text without the blanks that it begins with
abbrev pub from_word : List ℕ → List ℕ
from_word text = drop (blanks text) text

-- the first word of a text, which is empty if it has none, and what stands after it
abbrev pub first_word : List ℕ → List ℕ
first_word text = take (letters (from_word text)) (from_word text)

abbrev pub after_word : List ℕ → List ℕ
after_word text = drop (letters (from_word text)) (from_word text)

-- the word at a place of a line, from 0 on; empty if it has fewer
unfoldable pub word : List ℕ → ℕ → List ℕ
word line zero = first_word line
word line (suc place) = word (after_word line) place
