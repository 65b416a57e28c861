-- What an accepted call leaves of a ticket passes the ticket's checks.
-- Assumes nothing.
use Rattle.std.specs.Prelude.{Ok}
use Prim.Native.Nat.{ℕ, ◌+◌, ◌*◌, ◌≤◌, ◌<◌}
use mathlib.Core.Bool.{Bool, true, false, cond, ◌||◌}
use mathlib.Core.Logic.{◌⊎◌, inl, inr, ⊎_elim}
use mathlib.Core.Path.{◌≡◌, refl, sym, subst, ap, ◌∙◌}
use mathlib.Core.List.{List}
use native.Mathlib.Nat.{add-zero}
use native.Mathlib.Omega.{arith}
use borrow.Author.Tests.{eqb-false, eq-eqb, ltb-true}
use lib.Dec.{eqb}
use lib.ListN.{get_or, length, length-set}
use lib.Seq.{length-sets, get_or-set_same, get_or-set_other}
use Rattle.grid.proofs.Cases.{by_cell, eq_or_ne}
use Rattle.offers.specs.declared.Terms.{Terms}
use Rattle.documents.proofs.PairLaws.{Deal}
use Rattle.reader.proofs.Facts.{DealAt}
use Rattle.reader.proofs.TicketNumbers.{pair_start, Within, Passing, passes_deal}
use Rattle.tables.specs.View.{growers_of, pilots_of}
use Rattle.ticket_calls.specs.declared.Party.{Party}
use Rattle.ticket_calls.specs.declared.Party.TheVariants.{Grower, Pilot}
use Rattle.ticket_calls.specs.Calls.{Call, SetHours, SetPair, NoCall, is_one, is_in, hours_place, partners, numbers_of, with_hours}
use Rattle.ticket_calls.specs.Calls.{with_terms, cleared, without_deals, changed, refusal_of}
use Rattle.ticket_calls.proofs.PartyLaws.{is_in_lem, hours-with}
use Rattle.ticket_calls.proofs.ChangeLaws.{hours_head, terms_head, cleared_head}
use Rattle.ticket_calls.proofs.RefusalLaws.{hours_accepted, terms_accepted, none_of_pair}
use Rattle.ticket_calls.proofs.PairChanges.{NotOf, Of, of_party, terms_there, terms_other, terms_before, cleared_long, cleared-with}
use Rattle.ticket_calls.proofs.PairChanges.{cleared_other, cleared_before}

-- Five numbers that stand in a list as they stood in another, and five that are given.
abbrev SameFive : List ℕ → List ℕ → ℕ → Type 0
SameFive xs ys p = (a : ℕ) → a < 5 → get_or ys (p + a) 0 ≡ get_or xs (p + a) 0

at_first : (xs : List ℕ) (p : ℕ) → get_or xs p 0 ≡ get_or xs (p + 0) 0
at_first xs p = ap (λ (q : ℕ). get_or xs q 0) (sym (add-zero p))

first-same : (xs ys : List ℕ) (p : ℕ) → SameFive xs ys p → get_or ys p 0 ≡ get_or xs p 0
first-same xs ys p s = at_first ys p ∙ s 0 (omega arith) ∙ sym (at_first xs p)

deal_same : (xs ys : List ℕ) (p : ℕ) → SameFive xs ys p → DealAt xs p → DealAt ys p
deal_same xs ys p s d = rw (first-same xs ys p s, s 1 (omega arith), s 2 (omega arith), s 3 (omega arith), s 4 (omega arith)) d

caps_same : (xs ys : List ℕ) (p : ℕ) → SameFive xs ys p → (get_or xs p 0 ≡ 0) × (get_or xs (p + 3) 0 ≡ 0) →
    (get_or ys p 0 ≡ 0) × (get_or ys (p + 3) 0 ≡ 0)
caps_same xs ys p s z = (first-same xs ys p s ∙ z.0, s 3 (omega arith) ∙ z.1)

no_deal : Deal 0 0 0 0 0
no_deal = record {
  tariff_capped = omega arith;
  gain_capped = omega arith;
  pay_capped = omega arith;
  free_capped = omega arith;
  free_gain_capped = omega arith;
  no_tariff = λ z. (refl, refl);
  no_free = λ z. refl;
}

-- The hours of a pair stand elsewhere than those of a party that is not of it.
others_hours : (p : Party) (i j n m : ℕ) → i < n → is_one p n m ≡ true → NotOf p i j →
    (3 + i ≡ hours_place p n → ⊥) × (3 + n + j ≡ hours_place p n → ⊥)
others_hours (Grower g) i j n m hi one ne = let h = ltb-true g n one in (λ e. ne j (omega (arith, e), refl), λ e. omega (arith, e, h))
others_hours (Pilot g) i j n m hi one ne = (λ e. omega (arith, e), λ e. ne i (refl, omega (arith, e)))

either_zero : (x y : ℕ) → (x ≡ 0) ⊎ (y ≡ 0) → (eqb x 0 || eqb y 0) ≡ true
either_zero x y (inl e) = rw (eq-eqb x 0 e)
either_zero x y (inr e) = go (eqb x 0)
  where
    go : (t : Bool) → (t || eqb y 0) ≡ true
    go true = refl
    go false = eq-eqb y 0 e

module _ (xs : List ℕ) (w : Passing xs) where
  abbrev n : ℕ
  n = growers_of xs

  abbrev m : ℕ
  m = pilots_of xs

  -- A party's hours.
  module _ (p : Party) (h : ℕ) (one : is_one p n m ≡ true) (low : h ≤ 60) where
    abbrev ys : List ℕ
    ys = with_hours p h xs

    set_here : get_or ys (hours_place p n) 0 ≡ h
    set_here = get_or-set_same xs (hours_place p n) h 0 (omega (arith, (hours-with p n m one).1, w.count))

    set_other : (q : ℕ) → (q ≡ hours_place p n → ⊥) → get_or ys q 0 ≡ get_or xs q 0
    set_other q ne = get_or-set_other xs (hours_place p n) q h 0 ne

    set-pairs : (i j a : ℕ) → get_or ys (pair_start n m i j + a) 0 ≡ get_or xs (pair_start n m i j + a) 0
    set-pairs i j a = set_other (pair_start n m i j + a) (λ e. omega (arith, (hours-with p n m one).1))

    set-hours : (k : ℕ) → k < n + m → get_or ys (3 + k) 0 ≤ 60
    set-hours k b = ⊎_elim
        (λ e. omega (arith, low, set_here, ap (λ (q : ℕ). get_or ys q 0) e))
        (λ e. omega (arith, w.hours k b, set_other (3 + k) e))
        (eq_or_ne (3 + k) (hours_place p n))

    ys_growers : growers_of ys ≡ n
    ys_growers = hours_head p h xs 1 (omega arith)

    ys_pilots : pilots_of ys ≡ m
    ys_pilots = hours_head p h xs 2 (omega arith)

    ys_count : length ys ≡ 3 + n + m + 5 * (n * m)
    ys_count = length-set xs (hours_place p n) h ∙ w.count

    -- Where hours are set above 0, nobody is without hours who had some before.
    had_none : (h ≡ 0 → ⊥) → (q : ℕ) → get_or ys q 0 ≡ 0 → get_or xs q 0 ≡ 0
    had_none some q z = ⊎_elim
        (λ e. absurd (some (sym set_here ∙ ap (λ (r : ℕ). get_or ys r 0) (sym e) ∙ z)))
        (λ e. sym (set_other q e) ∙ z)
        (eq_or_ne q (hours_place p n))

    hours_above : (h ≡ 0 → ⊥) → Within ys n m
    hours_above some = record {
      kind = hours_head p h xs 0 (omega arith) ∙ w.kind;
      growers = w.growers;
      pilots = w.pilots;
      count = ys_count;
      hours = set-hours;
      deal = λ i j hi hj. deal_same xs ys _ (λ a ha. set-pairs i j a) (w.deal i j hi hj);
      none = λ i j hi hj z. caps_same xs ys _ (λ a ha. set-pairs i j a)
          (w.none i j hi hj (⊎_elim (λ e. inl (had_none some _ e)) (λ e. inr (had_none some _ e)) z));
    }

    -- Where they are set to 0, the pairs of the party are cleared.
    abbrev zs : List ℕ
    zs = cleared p (partners p n m) ys

    cleared_is : zs ≡ without_deals p ys
    cleared_is = rw (ys_growers, ys_pilots)

    zs_before : (q : ℕ) → q < 3 + n + m → get_or zs q 0 ≡ get_or ys q 0
    zs_before = cleared_before p ys n m ys_growers ys_pilots ys_count one (partners p n m) (omega arith)

    own_pair : (i j : ℕ) → Of p i j n m → (a : ℕ) → a < 5 → get_or zs (pair_start n m i j + a) 0 ≡ 0
    own_pair i j o a ha =
        rw (o.grower, o.pilot)
        (cleared-with p ys n m ys_growers ys_pilots ys_count one (partners p n m) (omega arith) o.partner o.few a ha)

    other_pair : (i j : ℕ) → i < n → j < m → NotOf p i j → SameFive xs zs (pair_start n m i j)
    other_pair i j hi hj ne a ha =
        cleared_other p ys n m ys_growers ys_pilots ys_count one (partners p n m) (omega arith) i j hi hj ne a ha ∙ set-pairs i j a

    own_deal : (i j : ℕ) → Of p i j n m → DealAt zs (pair_start n m i j)
    own_deal i j o =
        rw (
          at_first zs (pair_start n m i j) ∙ own_pair i j o 0 (omega arith),
          own_pair i j o 1 (omega arith),
          own_pair i j o 2 (omega arith),
          own_pair i j o 3 (omega arith),
          own_pair i j o 4 (omega arith),
        ) no_deal

    hours_gone : Within zs n m
    hours_gone = record {
      kind = cleared_head p (partners p n m) ys 0 (omega arith) ∙ hours_head p h xs 0 (omega arith) ∙ w.kind;
      growers = w.growers;
      pilots = w.pilots;
      count = cleared_long p (partners p n m) ys ∙ ys_count;
      hours = λ k b. omega (arith, zs_before (3 + k) (omega arith), set-hours k b);
      deal = λ i j hi hj. ⊎_elim
          (own_deal i j)
          (λ ne. deal_same xs zs _ (other_pair i j hi hj ne) (w.deal i j hi hj))
          (of_party p i j n m hi hj);
      none = λ i j hi hj z. ⊎_elim
          (λ o. (at_first zs (pair_start n m i j) ∙ own_pair i j o 0 (omega arith), own_pair i j o 3 (omega arith)))
          (λ ne. caps_same xs zs _ (other_pair i j hi hj ne) (w.none i j hi hj (⊎_elim
          (λ e. inl (sym (set_other _ (others_hours p i j n m hi one ne).0) ∙ sym (zs_before _ (omega arith)) ∙ e))
          (λ e. inr (sym (set_other _ (others_hours p i j n m hi one ne).1) ∙ sym (zs_before _ (omega arith)) ∙ e))
          z)))
          (of_party p i j n m hi hj);
    }

  -- The numbers of a pair.
  module _ (g l : ℕ) (t : Terms) (hg : g < n) (hl : l < m) (one : is_one (Grower g) n m ≡ true)
      (deal : Deal t.tariff_cap t.tariff_gain t.tariff_pay t.free_cap t.joint_gain)
      (gone : none_of_pair (Grower g) (Pilot l) t xs ≡ true → (t.tariff_cap ≡ 0) × (t.free_cap ≡ 0)) where
    abbrev ts : List ℕ
    ts = with_terms (Grower g) l t xs

    there : (a : ℕ) → a < 5 → get_or ts (pair_start n m g l + a) 0 ≡ get_or (numbers_of t) a 0
    there = terms_there (Grower g) xs n m refl refl w.count one l t hl

    elsewhere : (i j : ℕ) → i < n → j < m → ((i ≡ g) × (j ≡ l) → ⊥) → SameFive xs ts (pair_start n m i j)
    elsewhere = terms_other (Grower g) xs n m refl refl w.count one l t hl

    before : (q : ℕ) → q < 3 + n + m → get_or ts q 0 ≡ get_or xs q 0
    before = terms_before (Grower g) xs n m refl refl w.count one l t hl

    deal_there : DealAt ts (pair_start n m g l)
    deal_there =
        rw (
          at_first ts (pair_start n m g l) ∙ there 0 (omega arith),
          there 1 (omega arith),
          there 2 (omega arith),
          there 3 (omega arith),
          there 4 (omega arith),
        ) deal

    gone_there : (get_or ts (3 + g) 0 ≡ 0) ⊎ (get_or ts (3 + n + l) 0 ≡ 0) →
        (get_or ts (pair_start n m g l) 0 ≡ 0) × (get_or ts (pair_start n m g l + 3) 0 ≡ 0)
    gone_there z =
        let c = gone (either_zero _ _ (⊎_elim
        (λ e. inl (sym (before (3 + g) (omega arith)) ∙ e)) (λ e. inr (sym (before (3 + n + l) (omega arith)) ∙ e)) z)) in
        (at_first ts (pair_start n m g l) ∙ there 0 (omega arith) ∙ c.0, there 3 (omega arith) ∙ c.1)

    terms_set : Within ts n m
    terms_set = record {
      kind = terms_head (Grower g) l t xs 0 (omega arith) ∙ w.kind;
      growers = w.growers;
      pilots = w.pilots;
      count = length-sets xs _ (numbers_of t) ∙ w.count;
      hours = λ k b. omega (arith, before (3 + k) (omega arith), w.hours k b);
      deal = by_cell (λ i j. i < n → j < m → DealAt ts (pair_start n m i j)) g l
          (λ hi hj. deal_there)
          (λ i j ne hi hj. deal_same xs ts _ (elsewhere i j hi hj ne) (w.deal i j hi hj));
      none = by_cell
          (λ i j. i < n → j < m → (get_or ts (3 + i) 0 ≡ 0) ⊎ (get_or ts (3 + n + j) 0 ≡ 0) →
          (get_or ts (pair_start n m i j) 0 ≡ 0) × (get_or ts (pair_start n m i j + 3) 0 ≡ 0)) g l
          (λ hi hj z. gone_there z)
          (λ i j ne hi hj z. caps_same xs ts _ (elsewhere i j hi hj ne) (w.none i j hi hj (⊎_elim
          (λ e. inl (sym (before (3 + i) (omega arith)) ∙ e)) (λ e. inr (sym (before (3 + n + j) (omega arith)) ∙ e)) z)));
    }

-- A list of the same growers and pilots that is within the limits passes.
within_passes : (xs ys : List ℕ) → ((q : ℕ) → q < 3 → get_or ys q 0 ≡ get_or xs q 0) → Within ys (growers_of xs) (pilots_of xs) → Passing ys
within_passes xs ys head w = rw (head 1 (omega arith), head 2 (omega arith)) w

pub changed_passing : (c : Call) (xs : List ℕ) → Passing xs → refusal_of c xs ≡ Ok tt → Passing (changed c xs)
changed_passing (SetHours p h) xs w e = go (eqb h 0) refl
  where
    fine : (is_in p xs ≡ true) × (h ≤ 60)
    fine = hours_accepted p h xs e

    one : is_one p (growers_of xs) (pilots_of xs) ≡ true
    one = (is_in_lem p xs fine.0).one

    go : (t : Bool) → eqb h 0 ≡ t → Passing (cond t (without_deals p (with_hours p h xs)) (with_hours p h xs))
    go true z =
        within_passes xs _
        (λ q b. cleared_head p _ (with_hours p h xs) q b ∙ hours_head p h xs q b)
        (subst (λ (l : List ℕ). Within l (growers_of xs) (pilots_of xs)) (cleared_is xs w p h one fine.1) (hours_gone xs w p h one fine.1))
    go false z = within_passes xs _ (hours_head p h xs) (hours_above xs w p h one fine.1 (eqb-false h 0 z))
changed_passing (SetPair i j t) xs w e =
    let f = terms_accepted (Grower i) (Pilot j) t xs e in
    let d = passes_deal (none_of_pair (Grower i) (Pilot j) t xs) _ _ _ _ _ f.2 in
    let one = (is_in_lem (Grower i) xs f.0).one in
    within_passes xs _ (terms_head (Grower i) j t xs)
    (terms_set xs w i j t (ltb-true _ _ one) (ltb-true _ _ (is_in_lem (Pilot j) xs f.1).one) one d.0 d.1)
changed_passing NoCall xs w e = w
