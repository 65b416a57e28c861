-- Open markets in lent lists: the 1,315 places of a ticket's numbers, the 771 of a settlement's, and the free hours of 16 growers and of
-- 16 pilots.
-- Assumes nothing.
use Rattle.std.specs.Prelude.{Result, Ok, Err}
use Rattle.checks.specs.declared.refusals.Refusal.{Refusal}
use Rattle.std.specs.Prelude.{ℕ, ◌≤◌, ◌<◌, ◌≡◌, List, ◌++◌, length, take, drop}
use Rattle.std.proofs.lemmas.List.Edits.{sets}
use Rattle.checks.specs.Refusals.{Checked, number_of, giving}
use Rattle.reader.specs.Walk.{Outcome}
use Rattle.reader.specs.Values.{Values, refused_with, done_with, Replied, Refuses}
use Rattle.reader.specs.Answer.{settlement_packed, Tells, kept}
use Rattle.tables.specs.View.{growers_of, pilots_of, settlement_front}
use Rattle.open_market.specs.declared.held.Market.{Market}
use Rattle.open_market.specs.Markets.{Opened, Replayed}

abbrev pub market_length : ℕ
market_length = 2118

abbrev pub numbers_in : Market → List ℕ
numbers_in market = market.ticket ++ (market.settlement ++ (market.grower_free_hours ++ market.pilot_free_hours))

-- so many numbers of a list, from a place on
abbrev pub part : ℕ → ℕ → List ℕ → List ℕ
part count from list = take count (drop from list)

abbrev pub market_in : List ℕ → Market
market_in list = record {
  ticket = part 1315 0 list;
  settlement = part 771 1315 list;
  grower_free_hours = part 16 2086 list;
  pilot_free_hours = part 16 2102 list;
}

-- What opening comes to: the refusal, or the numbers of the market.
abbrev pub outcome_of : Result Market Refusal → Outcome
outcome_of (Ok market) = Ok (numbers_in market)
outcome_of (Err w) = Err w

-- Some answer that opening may give: told, and its market left at the front of the list if that has room. Which settlement it holds is
-- free.
pub record OpenedIn (file lent after : List ℕ) (r : Result ℕ Refusal) : Type 0 where
  pub answer : Result Market Refusal
  pub opened : Opened file answer
  pub tells : Tells r (length lent) (outcome_of answer)
  pub left : after ≡ kept lent (outcome_of answer)

-- The reply to calls that came to a refusal, or to none.
abbrev pub call_reply : Checked → Result ℕ Refusal
call_reply refusal = giving refusal market_length

abbrev pub call_on_paper : Checked → Values
call_on_paper (Ok _) = done_with market_length
call_on_paper (Err w) = refused_with (number_of w)

-- The calls were done on the market at the front of the list, and the market after them stands there.
pub record CallsDone (calls lent after : List ℕ) (r : Result ℕ Refusal) : Type 0 where
  pub refusal : Checked
  pub last : Market
  pub replayed : Replayed (market_in lent) calls refusal last
  pub tells : Replied r (call_reply refusal) (call_on_paper refusal)
  pub left : after ≡ sets lent 0 (numbers_in last)

-- A list that is too short holds no market, and is left as it was.
pub record CalledIn (calls lent after : List ℕ) (r : Result ℕ Refusal) : Type 0 where
  pub short : length lent < market_length → Refuses r Refusal.NoRoom × (after ≡ lent)
  pub done : market_length ≤ length lent → CallsDone calls lent after r

-- The file of the settlement that a list's market holds, by the growers and pilots that the settlement names. Of a list that is too short
-- there is none.
abbrev pub file_of : List ℕ → Outcome
file_of settlement = settlement_packed (growers_of settlement) (pilots_of settlement) (settlement_front settlement)

pub record WrittenFrom (list lent after : List ℕ) (r : Result ℕ Refusal) : Type 0 where
  pub short : length list < market_length → Refuses r Refusal.NoRoom × (after ≡ lent)
  pub written : market_length ≤ length list → Tells r (length lent) (file_of (market_in list).settlement) ×
      (after ≡ kept lent (file_of (market_in list).settlement))
