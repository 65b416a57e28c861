-- What the steps between a ticket's bytes and a settlement's know and leave, of the numbers of both.
-- Assumes nothing.
use Rattle.std.specs.Prelude.{Result, Ok}
use Rattle.checks.specs.declared.refusals.Refusal.{Refusal}
use Rattle.std.specs.Prelude.{ℕ, ◌≤◌, ◌≡◌, List, length}
use Rattle.reader.specs.Answer.{unpacked, settlement_packed}
use Rattle.tables.specs.View.{growers_of, pilots_of, settlement_front}
use Rattle.settler.specs.Settled.{SoundNumbers, room_for, Answers}

-- xs are the numbers of a ticket that passes its checks
pub record IsTicket (xs : List ℕ) : Type 0 where
  pub bytes : List ℕ
  pub from : unpacked bytes ≡ Ok xs

-- an answer to every ticket of those numbers
abbrev pub AnswersNumbers : List ℕ → List ℕ → List ℕ → Result ℕ Refusal → Type 0
AnswersNumbers xs lent after r = (ticket : List ℕ) → unpacked ticket ≡ Ok xs → Answers ticket xs lent after r

-- The front is a sound settlement of the ticket, and its file fits the room that is asked for.
pub record SoundFront (xs list : List ℕ) : Type 0 where
  pub good : SoundNumbers xs (settlement_front list)
  pub bytes : List ℕ
  pub packs : settlement_packed (growers_of xs) (pilots_of xs) (settlement_front list) ≡ Ok bytes
  pub short : length bytes ≤ room_for xs
