-- Marking a ticket's bytes and a settlement's bytes: refusals of the ticket first, then of the settlement, then the verdict.
-- Assumes nothing.
use Rattle.std.specs.Prelude.{Ok, Err}
use Rattle.std.specs.Prelude.{◌≡◌, List, ℕ}
use Rattle.reader.specs.Walk.{Outcome}
use Rattle.reader.specs.Answer.{unpacked, settlement_read}
use Rattle.market.specs.Market as market
use Rattle.verdicts.specs.declared.Values.{Values}
use Rattle.verdicts.specs.declared.Verdict.{Verdict}
use Rattle.verdicts.specs.declared.Verdict.TheVariants.{Refused}
use Rattle.tables.specs.View.{growers_of, pilots_of, ticket_of, settlement_of}
use Rattle.verdicts.specs.Values.{values_of}
use Rattle.marker.specs.Verdict.{judged}

-- the ticket's numbers are xs
abbrev pub settlement_marked : List ℕ → Outcome → Verdict
settlement_marked xs (Err w) = Refused w
settlement_marked xs (Ok ys) = judged (ticket_of xs) (settlement_of ys)

abbrev pub ticket_marked : Outcome → List ℕ → Verdict
ticket_marked (Err w) settlement = Refused w
ticket_marked (Ok xs) settlement = settlement_marked xs (settlement_read (growers_of xs) (pilots_of xs) settlement)

abbrev pub marked : List ℕ → List ℕ → Verdict
marked ticket settlement = ticket_marked (unpacked ticket) settlement

-- the same in the paper's number and values
abbrev pub marked_values : List ℕ → List ℕ → Values
marked_values ticket settlement = values_of (marked ticket settlement)

-- The bytes are a ticket and a settlement file of it, and the settlement is sound.
pub record SoundFiles (ticket settlement : List ℕ) : Type 0 where
  pub numbers : List ℕ
  pub answer : List ℕ
  pub is_ticket : unpacked ticket ≡ Ok numbers
  pub is_settlement : settlement_read (growers_of numbers) (pilots_of numbers) settlement ≡ Ok answer
  pub sound : market.Sound (ticket_of numbers) (settlement_of answer)
