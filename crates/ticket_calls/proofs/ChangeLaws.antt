-- What changes of a ticket's list leave: kind, growers and pilots, so the same parties are in it.
-- Assumes nothing.
use Prim.Native.Nat.{ℕ, zero, suc, ◌+◌, ◌≤◌, ◌<◌}
use mathlib.Core.Bool.{true}
use mathlib.Core.Path.{◌≡◌, refl, ap, ◌∙◌}
use mathlib.Core.List.{List}
use native.Mathlib.Omega.{arith}
use borrow.Author.Tests.{eq-eqb, ne_eqb}
use lib.ListN.{get_or, set}
use lib.Seq.{get_or-set_other}
use Rattle.offers.specs.declared.Terms.{Terms}
use Rattle.tables.specs.View.{growers_of, pilots_of}
use Rattle.ticket_calls.specs.declared.Party.{Party}
use Rattle.ticket_calls.specs.declared.Party.TheVariants.{Grower, Pilot}
use Rattle.ticket_calls.specs.Calls.{SetHours, hours_place, partners, pair_place, is_in, numbers_of, no_terms, with_hours, with_terms}
use Rattle.ticket_calls.specs.Calls.{cleared, without_deals, changed}
use Rattle.ticket_calls.proofs.Stores.{sets_before}
use Rattle.ticket_calls.proofs.PartyLaws.{In, is_in_lem, hours-with}

-- Hours and pairs stand after the first three numbers.
hours_late : (p : Party) (n : ℕ) → 3 ≤ hours_place p n
hours_late (Grower i) n = omega arith
hours_late (Pilot j) n = omega arith

pair_late : (p : Party) (n m k : ℕ) → 3 ≤ pair_place p n m k
pair_late (Grower i) n m k = omega arith
pair_late (Pilot j) n m k = omega arith

pub hours_head : (p : Party) (h : ℕ) (l : List ℕ) (q : ℕ) → q < 3 → get_or (with_hours p h l) q 0 ≡ get_or l q 0
hours_head p h l q b = get_or-set_other l _ q h 0 (λ e. omega (arith, hours_late p (growers_of l)))

pub terms_head : (p : Party) (k : ℕ) (t : Terms) (l : List ℕ) (q : ℕ) → q < 3 → get_or (with_terms p k t l) q 0 ≡ get_or l q 0
terms_head p k t l q b = sets_before l _ (numbers_of t) q (omega (arith, pair_late p (growers_of l) (pilots_of l) k))

pub cleared-none : (p : Party) (l : List ℕ) → cleared p 0 l ≡ l
unfolding cleared
cleared-none p l = refl

pub cleared_more : (p : Party) (k : ℕ) (l : List ℕ) → cleared p (suc k) l ≡ with_terms p k no_terms (cleared p k l)
unfolding cleared
cleared_more p k l = refl

pub cleared_head : (p : Party) (k : ℕ) (l : List ℕ) (q : ℕ) → q < 3 → get_or (cleared p k l) q 0 ≡ get_or l q 0
cleared_head p zero l q b = ap (λ (r : List ℕ). get_or r q 0) (cleared-none p l)
cleared_head p (suc k) l q b =
    ap (λ (r : List ℕ). get_or r q 0) (cleared_more p k l)
    ∙ terms_head p k no_terms (cleared p k l) q b
    ∙ cleared_head p k l q b

-- A list of the same growers and pilots has the same parties in it.
pub same_in : (p : Party) (l l' : List ℕ) → growers_of l' ≡ growers_of l → pilots_of l' ≡ pilots_of l → is_in p l ≡ true → is_in p l' ≡ true
same_in p l l' g m is = rw (g, m) is

-- Hours stored at their place.
module _ (p : Party) (h : ℕ) (l : List ℕ) (place : ℕ) (e : place ≡ hours_place p (growers_of l)) where
  pub hours_inside : is_in p l ≡ true → place < 1315
  hours_inside is =
      let i = is_in_lem p l is in
      omega (arith, e, (hours-with p (growers_of l) (pilots_of l) i.one).1, i.growers, i.pilots)

  pub still_in : is_in p l ≡ true → is_in p (set l place h) ≡ true
  still_in is = rw e (same_in p l (with_hours p h l) (hours_head p h l 1 (omega arith)) (hours_head p h l 2 (omega arith)) is)

  pub hours-set : (h ≡ 0 → ⊥) → set l place h ≡ changed (SetHours p h) l
  hours-set f = rw (ne_eqb h 0 f, e)

  pub hours-ended : h ≡ 0 → (l' : List ℕ) → l' ≡ without_deals p (set l place h) → l' ≡ changed (SetHours p h) l
  hours-ended f l' g = rw (eq-eqb h 0 f) (g ∙ ap (λ (q : ℕ). without_deals p (set l q h)) e)

-- One pair more is cleared.
module _ (p : Party) (l cur : List ℕ) (k : ℕ) (e : cur ≡ cleared p k l) (is : is_in p l ≡ true) where
  cur_growers : growers_of cur ≡ growers_of l
  cur_growers = ap growers_of e ∙ cleared_head p k l 1 (omega arith)

  cur_pilots : pilots_of cur ≡ pilots_of l
  cur_pilots = ap pilots_of e ∙ cleared_head p k l 2 (omega arith)

  pub clearable : k < partners p (growers_of l) (pilots_of l) → (is_in p cur ≡ true) × (k < partners p (growers_of cur) (pilots_of cur))
  clearable h = (same_in p l cur cur_growers cur_pilots is, rw (cur_growers, cur_pilots) h)

  pub clears : (l' : List ℕ) → l' ≡ with_terms p k no_terms cur → l' ≡ cleared p (k + 1) l
  clears l' f = let s : k + 1 ≡ suc k = omega arith in rw s (f ∙ ap (with_terms p k no_terms) e ∙ rw (cleared_more p k l))

-- A party has few partners.
pub few_partners : (p : Party) (l : List ℕ) → In p l → partners p (growers_of l) (pilots_of l) ≤ 16
few_partners (Grower i) l is = is.pilots
few_partners (Pilot j) l is = is.growers
