-- What settling may answer on a ticket's bytes and a lent buffer: a refusal, and the buffer as it was; or the length of a sound
-- settlement of the ticket, which stands at the buffer's front, and the rest as it was.
-- Assumes nothing.
use Rattle.std.specs.Prelude.{Result, Ok, Err}
use Rattle.checks.specs.declared.refusals.Refusal.{Refusal}
use Rattle.std.specs.Prelude.{ℕ, ◌+◌, ◌*◌, ◌≤◌, ◌<◌, ◌≡◌, List, length, take, drop}
use Rattle.reader.specs.Walk.{Outcome}
use Rattle.reader.specs.Values.{Refuses, Counts}
use Rattle.reader.specs.Answer.{unpacked, settlement_read}
use Rattle.market.specs.Market.{Sound, NobodyGains}
use Rattle.market.specs.Totals.{promised_worth}
use Rattle.tables.specs.View.{growers_of, pilots_of, ticket_of, settlement_of}
use Rattle.verdicts.specs.declared.Verdict.{Verdict}
use Rattle.marker.specs.Marked.{marked}

-- The numbers of a settlement of the ticket xs that nobody can better.
pub record SoundNumbers (xs numbers : List ℕ) : Type 0 where
  pub sound : Sound (ticket_of xs) (settlement_of numbers)
  -- for every unfilled deal, every spare of either party and every split with fractions, the two do not both gain
  pub nobody_gains : NobodyGains (ticket_of xs) (settlement_of numbers)

-- The first `count` bytes of the buffer are the file of such a settlement, and the bytes after them are as before.
pub record SettledIn (ticket xs lent after : List ℕ) (count : ℕ) : Type 0 where
  pub within : count ≤ length lent
  pub numbers : List ℕ
  pub file : settlement_read (growers_of xs) (pilots_of xs) (take count after) ≡ Ok numbers
  pub good : SoundNumbers xs numbers
  -- marking finds it sound, having looked at all deals, and gives its worth
  pub marks : marked ticket (take count after) ≡
      Verdict.Sound (2 * (growers_of xs * pilots_of xs)) (promised_worth (ticket_of xs) (settlement_of numbers).hours)
  pub rest : drop count after ≡ drop count lent

-- The bytes that the buffer must have, though the settlement may be shorter: three, and four for each pair.
abbrev pub room_for : List ℕ → ℕ
room_for xs = 3 + 4 * (growers_of xs * pilots_of xs)

-- An answer to a ticket of the numbers xs: a lack of room exactly when the buffer is too short, else a sound settlement.
pub record Answers (ticket xs lent after : List ℕ) (r : Result ℕ Refusal) : Type 0 where
  pub short : length lent < room_for xs → Refuses r Refusal.NoRoom × (after ≡ lent)
  pub settled : room_for xs ≤ length lent → (count : ℕ) × Counts r count × SettledIn ticket xs lent after count

-- An answer to a ticket's bytes: what unpacking refuses is refused with the same number.
abbrev pub SettledAs : List ℕ → Outcome → List ℕ → List ℕ → Result ℕ Refusal → Type 0
SettledAs ticket (Err w) lent after r = Refuses r w × (after ≡ lent)
SettledAs ticket (Ok xs) lent after r = Answers ticket xs lent after r

abbrev pub Settled : List ℕ → List ℕ → List ℕ → Result ℕ Refusal → Type 0
Settled ticket lent after r = SettledAs ticket (unpacked ticket) lent after r
