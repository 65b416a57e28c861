-- A text without its comments, and with one blank after each word.
-- Assumes nothing.
use Rattle.std.specs.Prelude.{ℕ, ◌+◌, ◌-◌, Bool, Option, Some, None, false, cond, List, [], ◌∷◌, ◌++◌, eqb}
use Rattle.lists.specs.NumberText.{white}
use Rattle.layouts.specs.declared.squeezing.Mode.{Mode}
use Rattle.layouts.specs.declared.squeezing.Mode.TheVariants.{Gap, Word, Comment}

-- The longest text that is read.
abbrev pub most_text : ℕ
most_text = 131071

-- The mode after a byte outside comments, and after any. 35 is `#`, which begins a comment, 10 the end of a line, which ends it.
abbrev pub outside : ℕ → Mode
outside b = cond (white b) Gap (cond (eqb b 35) Comment Word)

abbrev pub next_mode : Mode → ℕ → Mode
next_mode Gap b = outside b
next_mode Word b = outside b
next_mode Comment b = cond (eqb b 10) Gap Comment

-- The byte itself if it is one of a word, else what is left.
abbrev pub kept : Mode → ℕ → Option ℕ → Option ℕ
kept Word b left = Some b
kept Gap b left = left
kept Comment b left = left

-- What a byte leaves in the squeezed text: a word's bytes stay, and the first byte after a word becomes a blank.
abbrev pub given : Mode → ℕ → Option ℕ
given Gap b = kept (outside b) b None
given Word b = kept (outside b) b (Some 32)
given Comment b = None

abbrev pub last_of : Mode → Option ℕ
last_of Gap = None
last_of Word = Some 32
last_of Comment = None

abbrev pub bytes_in : Option ℕ → List ℕ
bytes_in None = []
bytes_in (Some b) = b ∷ []

abbrev pub emitted : Mode → ℕ → List ℕ
emitted mode b = bytes_in (given mode b)

unfoldable pub squeeze_from : Mode → List ℕ → List ℕ
squeeze_from mode [] = bytes_in (last_of mode)
squeeze_from mode (b ∷ rest) = emitted mode b ++ squeeze_from (next_mode mode b) rest

abbrev pub squeezed : List ℕ → List ℕ
squeezed text = squeeze_from Gap text

-- Some number k of what follows is the one that a byte leaves; and where it is counted from after it.
abbrev pub is_here : Option ℕ → ℕ → Bool
is_here None k = false
is_here (Some b) k = eqb k 0

abbrev pub fewer : Option ℕ → ℕ → ℕ
fewer None k = k
fewer (Some b) k = k - 1

abbrev pub line_end : ℕ → ℕ
line_end b = cond (eqb b 10) 1 0

-- The line, from 1 on, of the byte that left byte number k of the squeezed text, or the last line.
unfoldable pub line_from : Mode → ℕ → ℕ → List ℕ → ℕ
line_from mode line k [] = line
line_from mode line k (b ∷ rest) =
    cond (is_here (given mode b) k) line (line_from (next_mode mode b) (line + line_end b) (fewer (given mode b) k) rest)

abbrev pub line_at : List ℕ → ℕ → ℕ
line_at text k = line_from Gap 1 k text
