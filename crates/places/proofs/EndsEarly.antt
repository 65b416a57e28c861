-- A list that is refused because it ends early has no number at fault: no fault of a number is that refusal.
-- Assumes nothing.
use mathlib.Core.Path.{◌≡◌, refl, ap, ◌∙◌}
use mathlib.Core.Bool.{Bool, true, false, cond}
use Rattle.std.specs.Prelude.{Ok, Err}
use mathlib.Core.List.{List, [], ◌∷◌, ◌++◌}
use Prim.Native.Nat.{ℕ, zero, suc}
use lib.Dec.{leb, ltb, eqb}
use Rattle.grid.proofs.Cases.{never}
use Rattle.checks.specs.declared.refusals.Document.{Document}
use Rattle.checks.specs.declared.ticket.Field.{Field}
use Rattle.checks.specs.declared.ticket.Field.TheVariants.{Kind, Growers, Pilots, Hours, TariffCap, TariffGain, TariffPay, FreeCap}
use Rattle.checks.specs.declared.ticket.Field.TheVariants.{FreeGain}
use Rattle.checks.specs.declared.refusals.Refusal.{Refusal}
use Rattle.checks.specs.Refusals.{refusals_of, Checked, must, first}
use Rattle.checks.specs.TicketFaults.{party_fault, zero_cap_fault, no_hours_fault, amount_fault, cap_fault, fault_of}
use Rattle.checks.specs.SettlementFaults.{place_fault}
use Rattle.documents.specs.declared.State.{State}
use Rattle.documents.specs.Walk.{Taken, Refused, Took, Gives, read_head, unless, with, next, closed, final, walk, rest, form}
use Rattle.documents.specs.State.{start}
use Rattle.documents.specs.Ticket.{field_of, none_for}
use Rattle.documents.specs.Layout.{fault_in, after_in, form_of}
use Rattle.documents.proofs.WalkLaws.{Good, walk_took}

-- What is refused is refused for something else than v.
abbrev Other : Checked → Refusal → Type 0
Other c v = c ≡ Err v → ⊥

must_other : (test : Bool) (w v : Refusal) → (w ≡ v → ⊥) → Other (must test w) v
must_other true w v h = λ e. never cc
must_other false w v h = λ e. h cc

first_other : (a b : Checked) (v : Refusal) → Other a v → Other b v → Other (first a b) v
first_other (Ok x) b v h k = k
first_other (Err w) b v h k = h

cond_other : (test : Bool) (a b : Checked) (v : Refusal) → Other a v → Other b v → Other (cond test a b) v
cond_other true a b v h k = h
cond_other false a b v h k = k

none_other : (v : Refusal) → Other (Ok tt) v
none_other v = λ e. never cc

-- of a ticket
must_not_ends : (test : Bool) (w : Refusal) → (w ≡ Refusal.Ends → ⊥) → Other (must test w) Refusal.Ends
must_not_ends test w h = must_other test w Refusal.Ends h

amount_not_ends : (cap x : ℕ) → Other (amount_fault cap x) Refusal.Ends
amount_not_ends cap x =
    first_other (must (leb x 500) Refusal.AboveLimit) (zero_cap_fault cap x) Refusal.Ends
    (must_not_ends (leb x 500) Refusal.AboveLimit (λ e. never cc))
    (cond_other (eqb cap 0) (must (eqb x 0) Refusal.AmountWithoutCap) (Ok tt) Refusal.Ends
    (must_not_ends (eqb x 0) Refusal.AmountWithoutCap (λ e. never cc)) (none_other Refusal.Ends))

cap_not_ends : (none : Bool) (x : ℕ) → Other (cap_fault none x) Refusal.Ends
cap_not_ends none x =
    first_other (must (leb x 60) Refusal.AboveLimit) (no_hours_fault none x) Refusal.Ends
    (must_not_ends (leb x 60) Refusal.AboveLimit (λ e. never cc))
    (cond_other none (must (eqb x 0) Refusal.CapWithoutHours) (Ok tt) Refusal.Ends
    (must_not_ends (eqb x 0) Refusal.CapWithoutHours (λ e. never cc)) (none_other Refusal.Ends))

party_not_ends : (x : ℕ) → Other (party_fault Refusal.PartiesOutOfRange x) Refusal.Ends
party_not_ends x =
    cond_other (leb 1 x) (must (leb x 16) Refusal.PartiesOutOfRange) (Err Refusal.PartiesOutOfRange) Refusal.Ends
    (must_not_ends (leb x 16) Refusal.PartiesOutOfRange (λ e. never cc)) (λ e. never cc)

ticket_not_ends : (f : Field) (cap : ℕ) (none : Bool) (x : ℕ) → Other (fault_of f cap none x) Refusal.Ends
ticket_not_ends Kind cap none x = must_not_ends (eqb x 1) Refusal.WrongKind (λ e. never cc)
ticket_not_ends Growers cap none x = party_not_ends x
ticket_not_ends Pilots cap none x = party_not_ends x
ticket_not_ends Hours cap none x = must_not_ends (leb x 60) Refusal.HoursAboveLimit (λ e. never cc)
ticket_not_ends TariffCap cap none x = cap_not_ends none x
ticket_not_ends TariffGain cap none x = amount_not_ends cap x
ticket_not_ends TariffPay cap none x = amount_not_ends cap x
ticket_not_ends FreeCap cap none x = cap_not_ends none x
ticket_not_ends FreeGain cap none x = amount_not_ends cap x

-- of a settlement
place_not_ends : (n m p x : ℕ) → Other (place_fault n m p x) Refusal.SettlementEnds
place_not_ends n m zero x = must_other (eqb x 2) Refusal.SettlementWrongKind Refusal.SettlementEnds (λ e. never cc)
place_not_ends n m (suc zero) x = must_other (eqb x n) Refusal.OtherParties Refusal.SettlementEnds (λ e. never cc)
place_not_ends n m (suc (suc zero)) x = must_other (eqb x m) Refusal.OtherParties Refusal.SettlementEnds (λ e. never cc)
place_not_ends n m (suc (suc (suc p))) x = none_other Refusal.SettlementEnds

pub fault_not_ends : (p : Document) (s : State) (x : ℕ) → fault_in p s x ≡ Err (refusals_of p).ends → ⊥
fault_not_ends Document.Ticket s x = ticket_not_ends (field_of s) s.cap (none_for (field_of s) s) x
fault_not_ends (Document.Settlement n m) s x =
    first_other (must (ltb x 16384) Refusal.SettlementTooLong) (place_fault n m s.place x) Refusal.SettlementEnds
    (must_other (ltb x 16384) Refusal.SettlementTooLong Refusal.SettlementEnds (λ e. never cc))
    (place_not_ends n m s.place x)

pub left_not_ends : (p : Document) → (refusals_of p).left ≡ (refusals_of p).ends → ⊥
left_not_ends Document.Ticket = λ e. never cc
left_not_ends (Document.Settlement n m) = λ e. never cc

-- A refusal taken apart.
unless_refused : (c : Checked) (v : Refusal) (t : Taken) → Other c v → unless c t ≡ Refused v → (c ≡ Ok tt) × (t ≡ Refused v)
unless_refused (Ok x) v t h e = (refl, e)
unless_refused (Err w) v t h e = absurd (h cc)

pub with_refused : (xs : List ℕ) (t : Taken) (v : Refusal) → with xs t ≡ Refused v → t ≡ Refused v
with_refused xs (Refused w) v e = e
with_refused xs (Took ys b) v e = never cc

-- A list gives its own numbers.
gives_front : (a xs b : List ℕ) → Gives read_head a xs b → a ≡ xs ++ b
gives_front a [] b g = g
gives_front [] (x ∷ xs) b g = never (cc g.1)
gives_front (y ∷ a) (x ∷ xs) b g =
    let d : y ≡ x = cc g.1 in
    let r : a ≡ g.0 = cc g.1 in
    rw (d, r) (ap (λ (l : List ℕ). x ∷ l) (gives_front g.0 xs b g.2))

module _ (p : Document) where
  good_both : (s : State) (xs ys : List ℕ) → Good (form_of p) s xs → Good (form_of p) (final (form_of p) s xs) ys → Good (form_of p) s (xs ++ ys)
  good_both s [] ys g h = h
  good_both s (x ∷ xs) ys g h = (g.0, good_both (after_in p s x) xs ys g.1 h)

  walk_ends : (k : ℕ) (s : State) (a : List ℕ) → walk (form_of p) read_head k s a ≡ Refused (refusals_of p).ends → Good (form_of p) s a
  unfolding walk
  walk_ends zero s a e = never cc
  walk_ends (suc k) s [] e = tt
  walk_ends (suc k) s (x ∷ a) e =
      let t = walk (form_of p) read_head k (after_in p s x) a in
      let u = unless_refused (fault_in p s x) (refusals_of p).ends (with (x ∷ []) t) (fault_not_ends p s x) e in
      (u.0, walk_ends k (after_in p s x) a (with_refused (x ∷ []) t (refusals_of p).ends u.1))

  closed_ends : (t : Taken) → closed (refusals_of p) t ≡ Err (refusals_of p).ends → t ≡ Refused (refusals_of p).ends
  closed_ends (Refused w) e = cc
  closed_ends (Took xs []) e = never cc
  closed_ends (Took xs (b ∷ r)) e = absurd (left_not_ends p cc)

  pub ends_early : (l : List ℕ) → form (form_of p) read_head l ≡ Err (refusals_of p).ends → Good (form_of p) start l
  unfolding form
  ends_early l e =
      let t = walk (form_of p) read_head 3 start l in
      go t refl (closed_ends (next t (rest (form_of p) read_head)) e)
    where
      go : (t : Taken) → walk (form_of p) read_head 3 start l ≡ t → next t (rest (form_of p) read_head) ≡ Refused (refusals_of p).ends →
          Good (form_of p) start l
      go (Refused w) f e = walk_ends 3 start l (f ∙ e)
      go (Took xs b) f e =
          let w = walk_took (form_of p) read_head 3 start l xs b f in
          rw (gives_front l xs b w.gives)
          (good_both start xs b w.good
          (walk_ends _ (final (form_of p) start xs) b (with_refused xs (rest (form_of p) read_head xs b) (refusals_of p).ends e)))
