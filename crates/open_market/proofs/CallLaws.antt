-- The answers to calls that are refused and to those that are not, and to opening.
-- Assumes nothing.
use Rattle.std.specs.Prelude.{Result, Ok, Err}
use Rattle.checks.specs.declared.refusals.Refusal.{Refusal}
use Prim.Native.Nat.{ℕ, ◌≤◌}
use mathlib.Core.Path.{◌≡◌, refl, sym, subst, ap, ap₂, ◌∙◌}
use mathlib.Core.List.{List}
use native.Mathlib.Omega.{arith}
use borrow.Author.Tests.{le-leb}
use lib.ListN.{length, replicate}
use lib.Seq.{sets}
use Rattle.reader.specs.Answer.{unpacked, reply, kept}
use Rattle.reader.proofs.Facts.{unpacked_shape, reply_refused, reply_done}
use Rattle.ticket_calls.specs.Calls.{Call, refusal_of, after}
use Rattle.ticket_calls.proofs.RefusalLaws.{after_accepted, after_refused}
use Rattle.checks.specs.Refusals.{Checked}
use Rattle.grid.proofs.Cases.{never}
use Rattle.open_market.specs.declared.held.Market.{Market}
use Rattle.open_market.specs.Markets.{Settled, Answered, Opened, Called, CalledAfter, market_after}

-- A call that is refused, and one that is not.
pub refused_called : (c : Call) (market : Market) (w : Refusal) (r : Result Market Refusal) → refusal_of c market.ticket ≡ Err w → r ≡ Err w →
    Called c market r
refused_called c market w r e f = rw e f

pub accepted_called : (c : Call) (market : Market) (ticket : List ℕ) (next : Market) (r : Result Market Refusal) →
    refusal_of c market.ticket ≡ Ok tt → ticket ≡ after c market.ticket → Settled ticket next → r ≡ Ok next → Called c market r
accepted_called c market ticket next r e f s g =
    rw e (next, g, record { ticket_held = s.ticket_held ∙ f ∙ after_accepted c market.ticket e; settled = s.settled })

-- What is held after a call, by its answer.
pub called_after : (c : Call) (market : Market) (r : Result Market Refusal) → Called c market r → CalledAfter c market (market_after r market)
called_after c market r called = go (refusal_of c market.ticket) refl called
  where
    go : (w : Checked) → refusal_of c market.ticket ≡ w → Answered w (after c market.ticket) r →
        CalledAfter c market (market_after r market)
    go (Ok u) e a = subst (λ (q : Result Market Refusal). CalledAfter c market (market_after q market)) (sym a.1) (record {
      ticket = a.2.ticket_held;
      kept = λ w f. let g : Ok u ≡ Err w = sym e ∙ f in never cc;
      settled = λ f. a.2.settled;
    })
    go (Err w) e a = subst (λ (q : Result Market Refusal). CalledAfter c market (market_after q market)) (sym a) (record {
      ticket = sym (after_refused c market.ticket w e);
      kept = λ v f. refl;
      settled = λ f. let g : Err w ≡ Ok tt = sym e ∙ f in never cc;
    })

-- Markets that hold the same are the same.
pub same_market : (m m' : Market) → m.ticket ≡ m'.ticket → m.settlement ≡ m'.settlement →
    m.grower_free_hours ≡ m'.grower_free_hours → m.pilot_free_hours ≡ m'.pilot_free_hours → m ≡ m'
same_market m m' e f g p =
    ap₂ (λ (t s : List ℕ). market t s m.grower_free_hours m.pilot_free_hours) e f
    ∙ ap₂ (market m'.ticket m'.settlement) g p
  where
    market : (ticket settlement growers pilots : List ℕ) → Market
    market ticket settlement growers pilots = record {
      ticket = ticket;
      settlement = settlement;
      grower_free_hours = growers;
      pilot_free_hours = pilots;
    }

-- Opening, from what unpacking into a list of zeros answered and left.
module _ (file zeros ticket : List ℕ) (e : zeros ≡ replicate 1315 0) (long : length zeros ≡ 1315)
    (left : ticket ≡ kept zeros (unpacked file)) where
  pub opened_refused : (w : Refusal) (r : Result Market Refusal) → Err w ≡ reply (length zeros) (unpacked file) → r ≡ Err w → Opened file r
  opened_refused w r told why =
      let f = reply_refused (length zeros) (unpacked file) w (λ xs g. omega (arith, (unpacked_shape file xs g).few, long)) told in rw f why

  pub opened_done : (count : ℕ) (market : Market) (r : Result Market Refusal) → Ok count ≡ reply (length zeros) (unpacked file) →
      Settled ticket market → r ≡ Ok market → Opened file r
  opened_done count market r told s g =
      let d = reply_done (unpacked file) zeros count told in
      let xs = d.0 in
      let few : length xs ≤ length zeros = omega (arith, (unpacked_shape file xs d.1).few, long) in
      let f : ticket ≡ sets (replicate 1315 0) 0 xs =
      left ∙ ap (kept zeros) d.1 ∙ rw (le-leb (length xs) (length zeros) few) (ap (λ (z : List ℕ). sets z 0 xs) e) in
      rw d.1 (market, g, record { ticket_held = s.ticket_held ∙ f; settled = s.settled })
