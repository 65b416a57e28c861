-- What the steps between a ticket's bytes and its sheet know and leave.
-- Assumes nothing.
use Rattle.std.specs.Prelude.{ℕ, ◌≡◌, List, Ok}
use Rattle.reader.specs.Walk.{Outcome}
use Rattle.reader.specs.Answer.{unpacked, settlement_read}
use Rattle.tables.specs.View.{growers_of, pilots_of, ticket_of, settlement_of}
use Rattle.marker.specs.Verdict.{judged}
use Rattle.verdicts.specs.Values.{verdict_count}
use Rattle.settler.specs.Settled.{SoundNumbers}
use Rattle.ascii.specs.Writing.{Wrote}
use Rattle.sheets.specs.Sheeted.{IsSheet}

-- the numbers xs of a ticket's bytes, and the numbers ys of the file of a sound settlement of it
pub record Settles (ticket xs file ys : List ℕ) : Type 0 where
  pub unpacks : unpacked ticket ≡ Ok xs
  pub read : settlement_read (growers_of xs) (pilots_of xs) file ≡ Ok ys
  pub good : SoundNumbers xs ys

-- the same without the bytes
pub record Paired (xs ys : List ℕ) : Type 0 where
  pub ticket : List ℕ
  pub file : List ℕ
  pub settles : Settles ticket xs file ys

-- and with the marker's count
pub record Together (xs ys : List ℕ) (count : ℕ) : Type 0 where
  pub paired : Paired xs ys
  pub marks : count ≡ verdict_count (judged (ticket_of xs) (settlement_of ys))

-- the file of some sound settlement of the ticket
pub record SoundFile (ticket xs file : List ℕ) : Type 0 where
  pub numbers : List ℕ
  pub settles : Settles ticket xs file numbers

-- a sheet of the ticket stands at the front of a page, and ends before the place `end`
pub record Printed (ticket : Outcome) (page page' : List ℕ) (end : ℕ) : Type 0 where
  pub text : List ℕ
  pub sheet : IsSheet ticket text
  pub wrote : Wrote page page' 0 end text
