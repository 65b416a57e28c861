-- The answer and what is left in the lent buffer, by what was refused and what was not.
-- Assumes nothing.
use Rattle.std.specs.Prelude.{Result, Ok, Err}
use Rattle.checks.specs.declared.refusals.Refusal.{Refusal}
use Prim.Native.Nat.{ℕ, ◌+◌}
use mathlib.Core.Path.{◌≡◌, refl, sym, ap, ◌∙◌}
use mathlib.Core.List.{List}
use native.Mathlib.Omega.{arith}
use lib.ListN.{length}
use Rattle.groups.specs.Groups.{pack}
use Rattle.reader.specs.Walk.{Outcome}
use Rattle.reader.specs.Answer.{unpacked, packed, reply, Tells, kept}
use Rattle.reader.proofs.Facts.{unpacked_shape, reply_refused}
use Rattle.reader.proofs.Telling.{tells}
use Rattle.reader.proofs.TicketNumbers.{passing_packed}
use Rattle.tables.specs.View.{growers_of, pilots_of, ticket_front}
use Rattle.ticket_calls.proofs.Fronts.{front_growers, front_pilots}
use Rattle.window_lists.specs.WindowRefusals.{windows_refusal}
use Rattle.windows.specs.Narrowed.{narrowed, refusal_for, narrowed_as, new_ticket_of}
use Rattle.windows.specs.Held.{InFront, outcome_of}

-- An answer that tells an outcome, and the buffer after it.
abbrev pub Answers : Outcome → List ℕ → List ℕ → Result ℕ Refusal → Type 0
Answers o lent after r = Tells r (length lent) o × (after ≡ kept lent o)

-- An answer to an outcome answers an equal one.
pub answers_as : (o o' : Outcome) (lent after : List ℕ) (r : Result ℕ Refusal) → o ≡ o' → Answers o lent after r → Answers o' lent after r
answers_as o o' lent after r e a = rw e at a

pub refusal_answers : (lent : List ℕ) (why : Refusal) → Answers (Err why) lent lent (Err why)
refusal_answers lent why = (tells (Err why) (length lent) (Err why) refl, refl)

-- Windows that are not refused make the new ticket.
pub windows_pass : (windows xs : List ℕ) → refusal_for windows xs ≡ Ok tt →
    narrowed_as windows (Ok xs) ≡ Ok (pack (narrowed windows xs))
windows_pass windows xs e = rw e

module _ (windows list : List ℕ) (growers pilots : ℕ) (eg : growers ≡ growers_of list) (ep : pilots ≡ pilots_of list) where
  same_refusal : windows_refusal windows (growers + pilots) ≡ refusal_for windows (ticket_front list)
  same_refusal = rw (eg, ep, front_growers list, front_pilots list)

  -- The refusal of the windows, and none.
  pub refused_answers : (why : Refusal) → windows_refusal windows (growers + pilots) ≡ Err why → (lent : List ℕ) →
      Answers (outcome_of windows list) lent lent (Err why)
  refused_answers why e lent =
      answers_as (Err why) _ lent lent (Err why) (rw (sym same_refusal ∙ e)) (refusal_answers lent why)

  pub narrowed_answers : windows_refusal windows (growers + pilots) ≡ Ok tt → (next own lent after : List ℕ) (r : Result ℕ Refusal) →
      InFront (narrowed windows (ticket_front list)) next → own ≡ ticket_front next → Answers (packed own) lent after r →
      Answers (outcome_of windows list) lent after r
  narrowed_answers z next own lent after r here f =
      answers_as _ _ lent after r
      (ap packed (f ∙ here.front)
      ∙ passing_packed (narrowed windows (ticket_front list)) here.passing
      ∙ rw (sym same_refusal ∙ z))

-- From the ticket's bytes: what was refused, and what was unpacked.
pub ticket_refused : (s windows zeros lent : List ℕ) (w : Refusal) → length zeros ≡ 1315 → Err w ≡ reply (length zeros) (unpacked s) →
    Answers (new_ticket_of s windows) lent lent (Err w)
ticket_refused s windows zeros lent w long e =
    rw (reply_refused (length zeros) (unpacked s) w (λ xs f. omega (arith, (unpacked_shape s xs f).few, long)) e) (refusal_answers lent w)

pub ticket-unpacked : (s windows xs list lent after : List ℕ) (r : Result ℕ Refusal) → unpacked s ≡ Ok xs → InFront xs list →
    Answers (outcome_of windows list) lent after r → Answers (new_ticket_of s windows) lent after r
ticket-unpacked s windows xs list lent after r e here =
    answers_as _ _ lent after r (ap (narrowed_as windows) (ap (λ (xs : List ℕ). Ok xs) here.front ∙ sym e))
