-- What is refused, and what is not; and the list after either.
-- Assumes nothing.
use Rattle.std.specs.Prelude.{Ok, Err, is_ok}
use Prim.Native.Nat.{ℕ, ◌≤◌}
use mathlib.Core.Bool.{Bool, true, false, ◌&&◌, ◌||◌}
use mathlib.Core.Path.{◌≡◌, refl}
use mathlib.Core.List.{List}
use borrow.Author.Tests.{leb-true}
use lib.Dec.{eqb, leb}
use Rattle.checks.specs.declared.ticket.Field.TheVariants.{Hours}
use Rattle.checks.specs.declared.refusals.Refusal.{Refusal}
use Rattle.checks.specs.Refusals.{must, first}
use Rattle.checks.specs.TicketFaults.{fault_of}
use Rattle.checks.proofs.FaultLaws.{is_ok-true, must_holds}
use Rattle.offers.specs.declared.Terms.{Terms}
use Rattle.grid.proofs.Cases.{never}
use Rattle.grid.proofs.EveryLaws.{both_hold}
use Rattle.ticket_calls.specs.declared.Party.{Party}
use Rattle.ticket_calls.specs.Calls.{Call, is_in, hours_of, terms_pass, changed, hours_refusal, terms_refusal, refusal_of, after}

-- Two tests, each with its refusal: none is met where both hold.
none_fails : (a b : Bool) (v w : Refusal) → first (must a v) (must b w) ≡ Ok tt → (a ≡ true) × (b ≡ true)
none_fails true b v w e = (refl, must_holds b w e)
none_fails false b v w e = never cc

-- A party's hours.
pub hours_accepted : (p : Party) (h : ℕ) (l : List ℕ) → hours_refusal p h l ≡ Ok tt → (is_in p l ≡ true) × (h ≤ 60)
hours_accepted p h l e =
    let t = none_fails (is_in p l) (is_ok (fault_of Hours 0 false h)) Refusal.NoParty Refusal.AgainstLimits e in
    (t.0, leb-true h 60 (must_holds (leb h 60) Refusal.HoursAboveLimit (is_ok-true _ t.1)))

-- The terms of a pair.
module _ (g p : Party) (t : Terms) (l : List ℕ) where
  abbrev pub none_of_pair : Bool
  none_of_pair = eqb (hours_of g l) 0 || eqb (hours_of p l) 0

  pub terms_of-nobody : (is_in g l && is_in p l) ≡ false → terms_refusal g p t l ≡ Err Refusal.NoParty
  terms_of-nobody e = rw e

  pub terms_pass_lem : is_in g l ≡ true → is_in p l ≡ true → terms_pass none_of_pair t ≡ true → terms_refusal g p t l ≡ Ok tt
  terms_pass_lem a b f = rw (a, b, f)

  pub terms_accepted : terms_refusal g p t l ≡ Ok tt → (is_in g l ≡ true) × (is_in p l ≡ true) × (terms_pass none_of_pair t ≡ true)
  terms_accepted e =
      let u = none_fails (is_in g l && is_in p l) (terms_pass none_of_pair t) Refusal.NoParty Refusal.AgainstLimits e in
      let v = both_hold (is_in g l) (is_in p l) u.0 in
      (v.0, v.1, u.1)

-- The list after a call.
pub after_refused : (c : Call) (l : List ℕ) (w : Refusal) → refusal_of c l ≡ Err w → after c l ≡ l
after_refused c l w e = rw e

pub after_accepted : (c : Call) (l : List ℕ) → refusal_of c l ≡ Ok tt → after c l ≡ changed c l
after_accepted c l e = rw e
