-- What printing a ticket's sheet into a lent buffer answers, and leaves there.
-- Assumes nothing.
use Rattle.std.specs.Prelude.{ℕ, ◌+◌, ◌*◌, ◌≤◌, ◌<◌, ◌≡◌, List, ◌++◌, length, drop, Result, Ok, Err}
use Rattle.checks.specs.declared.refusals.Refusal.{Refusal}
use Rattle.checks.specs.Refusals.{number_of}
use Rattle.reader.specs.Walk.{Outcome}
use Rattle.reader.specs.Values.{Refuses, Counts}
use Rattle.reader.specs.Answer.{settlement_read}
use Rattle.tables.specs.View.{growers_of, pilots_of}
use Rattle.settler.specs.Settled.{SoundNumbers}
use Rattle.sheets.specs.Sheet.{sheet_text}
use Rattle.ascii.specs.Lines.{refused_text}

-- The sheet of the ticket xs: that of a sound settlement of it. Which one is free.
pub record SettledSheet (xs text : List ℕ) : Type 0 where
  -- the settlement as a file and as numbers
  pub file : List ℕ
  pub numbers : List ℕ
  pub read : settlement_read (growers_of xs) (pilots_of xs) file ≡ Ok numbers
  pub good : SoundNumbers xs numbers
  pub same : text ≡ sheet_text xs numbers

-- The sheet of what unpacking a ticket came to: its refusal, or its numbers settled.
abbrev pub IsSheet : Outcome → List ℕ → Type 0
IsSheet (Err w) text = text ≡ refused_text (number_of w)
IsSheet (Ok xs) text = SettledSheet xs text

-- The bytes that the buffer must have. A refusal's text has just so many; a sheet may be shorter: 14 for its header, 32 for each pair and
-- 10 for its last line.
abbrev pub room_for_sheet : Outcome → ℕ
room_for_sheet (Err w) = length (refused_text (number_of w))
room_for_sheet (Ok xs) = 24 + 32 * (growers_of xs * pilots_of xs)

-- A sheet stands at the front of the buffer, and its length is the answer. The bytes after it are as before.
pub record SheetIn (ticket : Outcome) (lent after : List ℕ) (r : Result ℕ Refusal) : Type 0 where
  pub text : List ℕ
  pub sheet : IsSheet ticket text
  pub within : length text ≤ length lent
  pub answer : Counts r (length text)
  pub left : after ≡ text ++ drop (length text) lent

-- An answer to what unpacking came to: a lack of room exactly when the buffer is too short, else some sheet.
pub record Sheeted (ticket : Outcome) (lent after : List ℕ) (r : Result ℕ Refusal) : Type 0 where
  pub short : length lent < room_for_sheet ticket → Refuses r Refusal.NoRoom × (after ≡ lent)
  pub printed : room_for_sheet ticket ≤ length lent → SheetIn ticket lent after r
