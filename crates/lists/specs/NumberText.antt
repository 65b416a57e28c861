-- Decimal numbers in a text: the numbers that it lists, or the line that is wrong.
-- White space stands between numbers, and a comment goes from `#` to the end of its line. Numbers have at most 16 bits.
-- Assumes nothing.
use Rattle.std.specs.Prelude.{ℕ, ◌+◌, ◌-◌, ◌*◌, Bool, Option, Some, None, cond, ◌&&◌, ◌||◌, List, [], ◌∷◌, ◌++◌, leb, ltb, eqb}
use Rattle.lists.specs.declared.text.Kind.{Kind}
use Rattle.lists.specs.declared.text.Kind.TheVariants.{LineEnd, Blank, Hash, Digit, Other}
use Rattle.lists.specs.declared.text.Mode.{Mode}
use Rattle.lists.specs.declared.text.Mode.TheVariants.{Gap, Comment, Number}

-- What a text comes to: the line, from 1 on, of the first byte that may not stand where it is, or its numbers.
pub data Listing : Type 0 where
  WrongLine : ℕ → Listing
  Listed : List ℕ → Listing

abbrev pub within : ℕ → ℕ → ℕ → Bool
within low high b = leb low b && leb b high

-- a space, or one of the control characters from the tab to the carriage return
abbrev pub white : ℕ → Bool
white b = eqb b 32 || within 9 13 b

-- What a byte is. 10 ends a line, 35 is `#`, 48 to 57 are the digits.
abbrev pub kind_of : ℕ → Kind
kind_of b =
    cond (eqb b 10) LineEnd
    (cond (white b) Blank
    (cond (eqb b 35) Hash
    (cond (within 48 57 b) (Digit (b - 48)) Other)))

-- a number with one digit more
abbrev pub grown : ℕ → ℕ → Option Mode
grown value digit = cond (ltb (10 * value + digit) 65536) (Some (Number (10 * value + digit))) None

-- outside comments, where the digits so far have a value
abbrev pub outside : ℕ → Kind → Option Mode
outside value LineEnd = Some Gap
outside value Blank = Some Gap
outside value Hash = Some Comment
outside value (Digit digit) = grown value digit
outside value Other = None

abbrev pub in_comment : Kind → Mode
in_comment LineEnd = Gap
in_comment Blank = Comment
in_comment Hash = Comment
in_comment (Digit digit) = Comment
in_comment Other = Comment

-- the mode after a byte of a kind
abbrev pub next_mode : Mode → Kind → Option Mode
next_mode Gap kind = outside 0 kind
next_mode Comment kind = Some (in_comment kind)
next_mode (Number value) kind = outside value kind

-- the number that ends where the text does
abbrev pub last : Mode → Option ℕ
last Gap = None
last Comment = None
last (Number value) = Some value

-- the number that ends before a byte of a kind
abbrev pub ended : Mode → Kind → Option ℕ
ended mode LineEnd = last mode
ended mode Blank = last mode
ended mode Hash = last mode
ended mode (Digit digit) = None
ended mode Other = None

abbrev pub numbers_in : Option ℕ → List ℕ
numbers_in None = []
numbers_in (Some value) = value ∷ []

abbrev pub line_ends : Kind → ℕ
line_ends LineEnd = 1
line_ends Blank = 0
line_ends Hash = 0
line_ends (Digit digit) = 0
line_ends Other = 0

-- the numbers xs stood before
abbrev pub with : List ℕ → Listing → Listing
with xs (WrongLine line) = WrongLine line
with xs (Listed ys) = Listed (xs ++ ys)

-- a stop after so many line ends, or what goes on in the next mode
abbrev pub onward : ℕ → Option Mode → (Mode → Listing) → Listing
onward passed None go = WrongLine (passed + 1)
onward passed (Some mode) go = go mode

-- the rest of a text, from a mode on, after so many line ends
unfoldable pub read_from : Mode → ℕ → List ℕ → Listing
read_from mode passed [] = Listed (numbers_in (last mode))
read_from mode passed (b ∷ rest) =
    onward passed (next_mode mode (kind_of b))
    (λ after. with (numbers_in (ended mode (kind_of b))) (read_from after (passed + line_ends (kind_of b)) rest))

-- a whole text
abbrev pub numbers_of : List ℕ → Listing
numbers_of text = read_from Gap 0 text
