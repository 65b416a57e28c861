-- What a text is read as: the numbers of a document, each after its label; or a plain list of numbers; or the line that is wrong.
-- Assumes nothing.
use Rattle.std.specs.Prelude.{ℕ, zero, suc, Option, Some, None, ◌+◌, ◌-◌, ◌*◌, Bool, true, false, cond, ◌&&◌, List, [], ◌∷◌, ◌++◌, eqb, ltb, length, get_or, drop}
use Rattle.ascii.specs.Texts.{codes}
use Rattle.lists.specs.NumberText as plain
use Rattle.lists.specs.NumberText.{within}
use Rattle.labels.specs.declared.places.Layout.{Layout}
use Rattle.labels.specs.declared.places.Layout.TheVariants.{Ticket, Settlement}
use Rattle.labels.specs.Words.{label}
use Rattle.layouts.specs.declared.reading.Step.{Step}
use Rattle.layouts.specs.declared.reading.Step.TheVariants.{More, Ends}
use Rattle.layouts.specs.Text.{growers_in, pilots_in}
use Rattle.layouts.specs.Squeezed.{most_text, squeezed, line_at}

-- The second begins with the first.
abbrev pub starts_with : List ℕ → List ℕ → Bool
starts_with [] s = true
starts_with (w ∷ ws) [] = false
starts_with (w ∷ ws) (b ∷ s) = eqb w b && starts_with ws s

-- A number of at most 16 bits, in decimal digits, with a blank after it.
pub data NumberRead : Type 0 where
  NoNumber : NumberRead
  NumberIs : ℕ → List ℕ → NumberRead

-- A byte after digits of the value v, if there were any: one digit more, the blank, or neither.
abbrev pub grown : ℕ → Option Step
grown x = cond (ltb x 65536) (Some (More x)) None

abbrev pub step_of : ℕ → Bool → ℕ → Option Step
step_of v seen b = cond (within 48 57 b) (grown (10 * v + (b - 48))) (cond (seen && eqb b 32) (Some Ends) None)

abbrev pub after_step : Option Step → ℕ → List ℕ → (ℕ → NumberRead) → NumberRead
after_step (Some (More x)) v rest go = go x
after_step (Some Ends) v rest go = NumberIs v rest
after_step None v rest go = NoNumber

unfoldable pub digits_read : ℕ → Bool → List ℕ → NumberRead
digits_read v seen [] = NoNumber
digits_read v seen (b ∷ rest) = after_step (step_of v seen b) v rest (λ x. digits_read x true rest)

-- The number of place p after its label, at the front of a squeezed text.
abbrev pub entry_read : Layout → ℕ → ℕ → ℕ → List ℕ → NumberRead
entry_read l n m p s = cond (starts_with (label l n m p) s) (digits_read 0 false (drop (length (label l n m p)) s)) NoNumber

-- All numbers of a squeezed text, or what is left where no number with its label stands.
pub data Entries : Type 0 where
  Stopped : List ℕ → Entries
  Whole : List ℕ → Entries

abbrev pub further : List ℕ → NumberRead → (ℕ → List ℕ → Entries) → Entries
further s NoNumber go = Stopped s
further s (NumberIs x rest) go = go x rest

-- at most k more, after the numbers xs
unfoldable pub entries_from : ℕ → Layout → List ℕ → List ℕ → Entries
entries_from zero l xs s = Stopped s
entries_from (suc k) l xs [] = Whole xs
entries_from (suc k) l xs (b ∷ s) =
    further (b ∷ s) (entry_read l (growers_in xs) (pilots_in xs) (length xs) (b ∷ s)) (λ x rest. entries_from k l (xs ++ (x ∷ [])) rest)

abbrev pub most_numbers : ℕ
most_numbers = 65536

abbrev pub entries_in : Layout → List ℕ → Entries
entries_in l s = entries_from most_numbers l [] s

-- What a text comes to: which document it is of and its numbers; or the line, from 1 on, that is wrong; or it is too long to be read.
pub data Document : Type 0 where
  DocumentIs : Layout → List ℕ → Document
  WrongLine : ℕ → Document
  TooMuch : Document

-- a text with words
abbrev pub worded_as : Layout → List ℕ → Entries → Document
worded_as l text (Whole xs) = DocumentIs l xs
worded_as l text (Stopped rest) = WrongLine (line_at text (length (squeezed text) - length rest))

abbrev pub worded : Layout → List ℕ → Document
worded l text = worded_as l text (entries_in l (squeezed text))

-- a plain list, which is a settlement's if its kind is 2
abbrev pub kind_of : List ℕ → Layout
kind_of xs = cond (eqb (get_or xs 0 0) 2) Settlement Ticket

abbrev pub plain_as : plain.Listing → Document
plain_as (plain.WrongLine line) = WrongLine line
plain_as (plain.Listed xs) = DocumentIs (kind_of xs) xs

-- any text, by its first word
abbrev pub document_in : List ℕ → Document
document_in text =
    cond (ltb most_text (length text)) TooMuch
    (cond (starts_with (codes "ticket ") (squeezed text)) (worded Ticket text)
    (cond (starts_with (codes "settlement ") (squeezed text)) (worded Settlement text) (plain_as (plain.numbers_of text))))
