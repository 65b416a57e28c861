-- What the four operations answer, and what they leave in the lent list or buffer.
use Rattle.std.specs.Prelude.{Result, Ok, Err}
use Rattle.checks.specs.declared.refusals.Refusal.{Refusal}
use Rattle.std.specs.Prelude.{cond, List, ℕ, leb, length}
use Rattle.std.proofs.lemmas.List.Edits.{sets}
use Rattle.checks.specs.Refusals.{number_of}
use Rattle.groups.specs.Groups.{bytes, pack}
use Rattle.documents.specs.Walk.{Outcome, read_head, form}
use Rattle.documents.specs.Layout.{ticket, settlement}
use Rattle.reader.specs.Values.{Values, refused_with, done_with, Replied}

-- A ticket's bytes as numbers.
abbrev pub unpacked : List ℕ → Outcome
unpacked s = form ticket bytes s

-- The bytes of the numbers that were accepted.
abbrev pub packed_as : Outcome → Outcome
packed_as (Err w) = Err w
packed_as (Ok xs) = Ok (pack xs)

-- A ticket's numbers as bytes.
abbrev pub packed : List ℕ → Outcome
packed list = packed_as (form ticket read_head list)

-- The bytes of a settlement of a ticket with n growers and m pilots as numbers, and its numbers as bytes.
abbrev pub settlement_read : ℕ → ℕ → List ℕ → Outcome
settlement_read n m s = form (settlement n m) bytes s

abbrev pub settlement_packed : ℕ → ℕ → List ℕ → Outcome
settlement_packed n m list = packed_as (form (settlement n m) read_head list)

-- The answer before the lent list is looked at.
abbrev pub counted : Outcome → Result ℕ Refusal
counted (Err w) = Err w
counted (Ok xs) = Ok (length xs)

-- The answer where `room` places are lent: a lack of room is the last refusal.
abbrev pub reply : ℕ → Outcome → Result ℕ Refusal
reply room (Err w) = Err w
reply room (Ok xs) = cond (leb (length xs) room) (Ok (length xs)) (Err Refusal.NoRoom)

-- The same on paper.
abbrev pub reply_on_paper : ℕ → Outcome → Values
reply_on_paper room (Err w) = refused_with (number_of w)
reply_on_paper room (Ok xs) = cond (leb (length xs) room) (done_with (length xs)) (refused_with (number_of Refusal.NoRoom))

-- The reply tells the outcome, in code and on paper.
abbrev pub Tells : Result ℕ Refusal → ℕ → Outcome → Type 0
Tells r room o = Replied r (reply room o) (reply_on_paper room o)

-- The lent list after it: as it was, or with the numbers at its front.
abbrev pub kept : List ℕ → Outcome → List ℕ
kept lent (Err w) = lent
kept lent (Ok xs) = cond (leb (length xs) (length lent)) (sets lent 0 xs) lent
