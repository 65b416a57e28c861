-- What holds of every open market: opened from a ticket it holds it, and every call keeps that.
-- Assumes nothing.
use Rattle.std.specs.Prelude.{Result, Ok, Err}
use Rattle.checks.specs.declared.refusals.Refusal.{Refusal}
use Rattle.checks.specs.Refusals.{Checked}
use Prim.Native.Nat.{ℕ, min}
use mathlib.Core.Path.{◌≡◌, refl, sym, subst, ap, ◌∙◌}
use mathlib.Core.List.{List, [], ◌∷◌}
use lib.ListN.{length, replicate, length-replicate}
use lib.Seq.{sets}
use Rattle.groups.specs.Groups.{pack}
use Rattle.market.specs.Market.{Ticket, Settlement, Sound}
use Rattle.market.specs.Same.{SameSettlement}
use Rattle.market.proofs.Same.{sound_same}
use Rattle.market.proofs.Gains.{nothing_blocks_iff}
use Rattle.reader.specs.Answer.{unpacked}
use Rattle.reader.proofs.Facts.{settlement-packed_read}
use Rattle.reader.proofs.TicketNumbers.{unpacked_passing, passing_packed, passing_unpacked}
use Rattle.tables.specs.View.{growers_of, pilots_of, ticket_of, first_sixteen, settlement_of, ticket_front, settlement_front}
use Rattle.marker.proofs.Marking.{sound_files_marked}
use Rattle.settler.specs.SettledList.{SettledList}
use Rattle.settler.specs.Numbers.{IsTicket, SoundFront}
use Rattle.settler.proofs.SettlementNumbers.{itself, front_means, nobody_left, sound_front}
use Rattle.free_hours.specs.FreeHours.{AreFree}
use Rattle.free_hours.proofs.FreeLaws.{free-same}
use Rattle.open_market.specs.declared.held.Market.{Market}
use Rattle.ticket_calls.specs.Calls.{Call, refusal_of, after, after_all}
use Rattle.open_market.specs.Markets.{IsSettled, Answered, Opened, Called, market_after, Reached, Holds}
use Rattle.ticket_calls.proofs.RefusalLaws.{after_refused}
use Rattle.ticket_calls.proofs.Fronts.{front_growers, front_pilots, front_same}
use Rattle.ticket_calls.proofs.InFront.{InFront, after_in-front, written_in_front}

-- The ticket xs, which passes its checks, stands in front of the list that is held, and the market is settled.
pub record Holding (xs : List ℕ) (market : Market) : Type 0 where
  pub ticket : InFront xs market.ticket
  pub settled : IsSettled market

-- A call.
call_holding : (c : Call) (xs : List ℕ) (market : Market) (r : Result Market Refusal) → Holding xs market → Called c market r →
    Holding (after c xs) (market_after r market)
call_holding c xs market r holding called = go (refusal_of c market.ticket) refl called
  where
    front : InFront (after c xs) (after c market.ticket)
    front = after_in-front c xs market.ticket holding.ticket

    go : (w : Checked) → refusal_of c market.ticket ≡ w → Answered w (after c market.ticket) r →
        Holding (after c xs) (market_after r market)
    go (Ok _) e a = subst (λ (q : Result Market Refusal). Holding (after c xs) (market_after q market)) (sym a.1)
        (record { ticket = subst (InFront (after c xs)) (sym a.2.ticket_held) front; settled = a.2.settled })
    go (Err w) e a = subst (λ (q : Result Market Refusal). Holding (after c xs) (market_after q market)) (sym a)
        (record { ticket = subst (InFront (after c xs)) (after_refused c market.ticket w e) front; settled = holding.settled })

reached_holding : (cs : List Call) (xs : List ℕ) (market last : Market) → Holding xs market → Reached market cs last →
    Holding (after_all cs xs) last
reached_holding [] xs market last h e = subst (Holding xs) e h
reached_holding (c ∷ cs) xs market last h r =
    reached_holding cs (after c xs) (market_after r.0 market) last (call_holding c xs market r.0 h r.1) r.2

-- Opening.
opened_holding : (file xs zeros : List ℕ) (market : Market) → zeros ≡ replicate 1315 0 → unpacked file ≡ Ok xs → Opened file (Ok market) →
    Holding xs market
opened_holding file xs zeros market z e opened =
    let o = rw e at opened in
    let same : o.0 ≡ market = let f = o.1 in cc in
    let long : length zeros ≡ 1315 = ap length z ∙ length-replicate {A = ℕ} 1315 0 in
    let t : o.0.ticket ≡ sets zeros 0 xs = o.2.ticket_held ∙ ap (λ (l : List ℕ). sets l 0 xs) (sym z) in
    subst (Holding xs) same
    (record { ticket = written_in_front xs zeros o.0.ticket (unpacked_passing file xs e) long t; settled = o.2.settled })

settlement_itself : (t : Ticket) (x : Settlement) → SameSettlement t x x
settlement_itself t x = record { hours = λ d i j hi hj. refl; pay = λ i j hi hj. refl }

-- What is held.
module _ (xs : List ℕ) (market : Market) (h : Holding xs market) where
  is : IsTicket xs
  is = record { bytes = pack xs; from = passing_unpacked xs h.ticket.passing }

  settled-front : SettledList xs market.settlement
  settled-front = subst (λ (l : List ℕ). SettledList l market.settlement) h.ticket.front (record {
    long = s.long;
    kind = s.kind;
    growers = s.growers ∙ ap (min 16) (sym (front_growers market.ticket));
    pilots = s.pilots ∙ ap (min 16) (sym (front_pilots market.ticket));
    rest = s.rest;
    sound = sound;
    nobody_gains = (nothing_blocks_iff _ _).0 sound.nothing_blocks;
  })
    where
      s : SettledList market.ticket market.settlement
      s = h.settled.settled

      sound : Sound (first_sixteen (ticket_of (ticket_front market.ticket))) (settlement_of market.settlement)
      sound = sound_same (front_same market.ticket) (settlement_itself _ _) s.sound

  f : SoundFront xs market.settlement
  f = sound_front xs market.settlement is settled-front

  abbrev Free : Ticket → Settlement → Type 0
  Free t x = AreFree t x market.grower_free_hours market.pilot_free_hours

  free-front : Free (ticket_of xs) (settlement_of (settlement_front market.settlement))
  free-front =
      let s = settlement_of market.settlement in
      let a = free-same (front_same market.ticket) (settlement_itself _ s) _ _ h.settled.free in
      let b = subst (λ (l : List ℕ). Free (first_sixteen (ticket_of l)) s) h.ticket.front a in
      free-same (itself _) (front_means xs market.settlement is settled-front) _ _
      (free-same (nobody_left xs market.settlement is settled-front) (settlement_itself _ s) _ _ b)

  pub holding_holds : Holds xs market
  holding_holds = record {
    ticket = h.ticket.front;
    good = f.good;
    free = free-front;
    file = pack xs;
    packs = passing_packed xs h.ticket.passing;
    unpacks = passing_unpacked xs h.ticket.passing;
    answer = f.bytes;
    writes = f.packs;
    marks = sound_files_marked (pack xs) f.bytes (record {
      numbers = xs;
      answer = settlement_front market.settlement;
      is_ticket = passing_unpacked xs h.ticket.passing;
      is_settlement = settlement-packed_read (growers_of xs) (pilots_of xs) (settlement_front market.settlement) f.bytes f.packs;
      sound = f.good.sound;
    });
  }

-- For every market that was opened from a ticket and every list of calls on it.
pub always_holds : (file xs : List ℕ) (opened : Market) (cs : List Call) (last : Market) → unpacked file ≡ Ok xs → Opened file (Ok opened) →
    Reached opened cs last → Holds (after_all cs xs) last
always_holds file xs opened cs last e o r =
    holding_holds (after_all cs xs) last (reached_holding cs xs opened last (opened_holding file xs _ opened refl e o) r)
