-- Open markets: what opening and calls answer and leave, and what holds of every market that is reached.
-- Assumes nothing.
use Rattle.std.specs.Prelude.{Result, Ok, Err}
use Rattle.checks.specs.declared.refusals.Refusal.{Refusal}
use Rattle.std.specs.Prelude.{ℕ, ◌*◌, ◌≡◌, List, [], ◌∷◌, ◌++◌, replicate}
use Rattle.std.proofs.lemmas.List.Edits.{sets}
use Rattle.checks.specs.Refusals.{Checked, first}
use Rattle.market.specs.Totals.{promised_worth}
use Rattle.reader.specs.Walk.{Outcome}
use Rattle.reader.specs.Answer.{unpacked, packed, settlement_packed}
use Rattle.tables.specs.View.{growers_of, pilots_of, ticket_of, first_sixteen, settlement_of, ticket_front, settlement_front}
use Rattle.free_hours.specs.FreeHours.{AreFree}
use Rattle.verdicts.specs.declared.Verdict.{Verdict}
use Rattle.marker.specs.Marked.{marked}
use Rattle.settler.specs.Settled.{SoundNumbers}
use Rattle.settler.specs.SettledList.{SettledList}
use Rattle.open_market.specs.declared.held.Market.{Market}
use Rattle.ticket_calls.specs.Calls.{Call, refusal_of, after, after_all, first_refusal}
use Rattle.open_market.specs.Lists.{calls_of}

-- A market that is settled: it holds a settlement of its ticket, and the free hours are everybody's hours less those in that settlement.
pub record IsSettled (market : Market) : Type 0 where
  pub settled : SettledList market.ticket market.settlement
  pub free : AreFree (first_sixteen (ticket_of market.ticket)) (settlement_of market.settlement)
      market.grower_free_hours market.pilot_free_hours

-- It holds that ticket, and is settled.
pub record Settled (ticket : List ℕ) (market : Market) : Type 0 where
  pub ticket_held : market.ticket ≡ ticket
  pub settled : IsSettled market

-- The answer by a refusal, or none, and the ticket after it: why, or that ticket, settled.
abbrev pub Answered : Checked → List ℕ → Result Market Refusal → Type 0
Answered (Err w) ticket r = r ≡ Err w
Answered (Ok _) ticket r = (market : Market) × (r ≡ Ok market) × Settled ticket market

-- Opening: a ticket's refusal, or its numbers with zeros after them, settled.
abbrev pub OpenedAs : Outcome → Result Market Refusal → Type 0
OpenedAs (Err w) r = r ≡ Err w
OpenedAs (Ok xs) r = (market : Market) × (r ≡ Ok market) × Settled (sets (replicate 1315 0) 0 xs) market

abbrev pub Opened : List ℕ → Result Market Refusal → Type 0
Opened file r = OpenedAs (unpacked file) r

-- A call on a market: why it is refused, or the ticket after it, settled.
abbrev pub Called : Call → Market → Result Market Refusal → Type 0
Called c market r = Answered (refusal_of c market.ticket) (after c market.ticket) r

-- The market after an answer: a refused call leaves the market as it was.
abbrev pub market_after : Result Market Refusal → Market → Market
market_after (Ok next) market = next
market_after (Err w) market = market

-- What is held after a call: a refused one leaves the market as it was, an accepted one the ticket after it, settled.
pub record CalledAfter (c : Call) (market : Market) (next : Market) : Type 0 where
  pub ticket : next.ticket ≡ after c market.ticket
  pub kept : (w : Refusal) → refusal_of c market.ticket ≡ Err w → next ≡ market
  pub settled : refusal_of c market.ticket ≡ Ok tt → IsSettled next

-- One call more, after others that came to a refusal, or to none, and to a market: the first refusal stays.
pub record Next (c : Call) (before : Checked) (market : Market) (told : Checked) (next : Market) : Type 0 where
  pub answer : Result Market Refusal
  pub called : Called c market answer
  pub refusal : told ≡ first before (refusal_of c market.ticket)
  pub after : next ≡ market_after answer market

-- The last market is reached from another by calls one after another.
abbrev pub Reached : Market → List Call → Market → Type 0
Reached market [] last = market ≡ last
Reached market (c ∷ cs) last = (r : Result Market Refusal) × Called c market r × Reached (market_after r market) cs last

-- A market that holds the ticket xs: its numbers are a file that unpacks to them, so they pass the ticket's checks; the settlement's
-- numbers are a sound settlement of it, whose file marking finds sound, having looked at all deals; and each figure of free hours is the
-- party's hours less those in that settlement.
pub record Holds (xs : List ℕ) (market : Market) : Type 0 where
  pub ticket : ticket_front market.ticket ≡ xs
  pub good : SoundNumbers xs (settlement_front market.settlement)
  pub free : AreFree (ticket_of xs) (settlement_of (settlement_front market.settlement))
      market.grower_free_hours market.pilot_free_hours
  pub file : List ℕ
  pub packs : packed xs ≡ Ok file
  pub unpacks : unpacked file ≡ Ok xs
  pub answer : List ℕ
  pub writes : settlement_packed (growers_of xs) (pilots_of xs) (settlement_front market.settlement) ≡ Ok answer
  pub marks : marked file answer ≡ Verdict.Sound (2 * (growers_of xs * pilots_of xs))
      (promised_worth (ticket_of xs) (settlement_of (settlement_front market.settlement)).hours)

-- Whatever was called since it was opened from a ticket, a market holds the ticket that these calls give.
pub record Kept (market : Market) (cs : List Call) (last : Market) : Type 0 where
  pub reached : Reached market cs last
  pub holds : (file xs : List ℕ) (opened : Market) (before : List Call) → unpacked file ≡ Ok xs → Opened file (Ok opened) →
      Reached opened before market → Holds (after_all (before ++ cs) xs) last

-- A list of calls: the first refusal among them, and the market after them.
pub record Replayed (market : Market) (calls : List ℕ) (told : Checked) (last : Market) : Type 0 where
  pub refusal : told ≡ first_refusal (calls_of calls) market.ticket
  pub ticket : last.ticket ≡ after_all (calls_of calls) market.ticket
  pub kept : Kept market (calls_of calls) last
