-- A ticket's numbers stand in front of a longer list: calls on the longer list are calls on them, and both mean the same market.
-- Assumes nothing.
use Prim.Native.Nat.{ℕ, zero, suc, ◌+◌, ◌≤◌, ◌<◌, min}
use mathlib.Core.Bool.{Bool, true, false, cond, ◌&&◌}
use mathlib.Core.Path.{◌≡◌, refl, sym, ap, ◌∙◌}
use mathlib.Core.List.{List}
use native.Mathlib.Omega.{arith}
use lib.Dec.{eqb}
use lib.ListN.{get_or, set, take, length, length-set}
use lib.Seq.{sets, get_or-take, length-sets}
use Rattle.market.specs.Same.{SameTicket}
use Rattle.offers.specs.declared.Terms.{Terms}
use Rattle.grid.proofs.EveryLaws.{both_hold}
use Rattle.reader.proofs.Facts.{pair-below}
use Rattle.tables.specs.View.{growers_of, pilots_of, pair_place, ticket_of, first_sixteen, ticket_length}
use Rattle.ticket_calls.specs.declared.Party.{Party}
use Rattle.ticket_calls.specs.declared.Party.TheVariants.{Grower, Pilot}
use Rattle.ticket_calls.specs.Calls.{Call, SetHours, SetPair, NoCall, hours_place, is_in, hours_of, numbers_of, no_terms}
use Rattle.ticket_calls.specs.Calls.{with_hours, with_terms, cleared, without_deals, changed, terms_refusal, refusal_of}
use Rattle.ticket_calls.specs.Calls as calls
use Rattle.ticket_calls.proofs.Stores.{take-set, take_sets}
use Rattle.ticket_calls.proofs.PartyLaws.{is_in_lem, hours-with}
use Rattle.ticket_calls.proofs.ChangeLaws.{hours_head, terms_head, cleared-none, cleared_more, cleared_head}
use Rattle.ticket_calls.proofs.RefusalLaws.{terms_of-nobody}
use Rattle.ticket_calls.proofs.PairChanges.{cleared_long}

-- Calls keep the first three numbers, and how many there are.
pub changed_head : (c : Call) (l : List ℕ) (q : ℕ) → q < 3 → get_or (changed c l) q 0 ≡ get_or l q 0
changed_head (SetHours p h) l q b = go (eqb h 0)
  where
    go : (t : Bool) → get_or (cond t (without_deals p (with_hours p h l)) (with_hours p h l)) q 0 ≡ get_or l q 0
    go true = cleared_head p _ (with_hours p h l) q b ∙ hours_head p h l q b
    go false = hours_head p h l q b
changed_head (SetPair i j t) l q b = terms_head (Grower i) j t l q b
changed_head NoCall l q b = refl

pub changed_long : (c : Call) (l : List ℕ) → length (changed c l) ≡ length l
changed_long (SetHours p h) l = go (eqb h 0)
  where
    go : (t : Bool) → length (cond t (without_deals p (with_hours p h l)) (with_hours p h l)) ≡ length l
    go true = cleared_long p _ (with_hours p h l) ∙ length-set l _ h
    go false = length-set l _ h
changed_long (SetPair i j t) l = length-sets l _ (numbers_of t)
changed_long NoCall l = refl

-- Changes of the front are the front of changes.
module _ (k : ℕ) (three : 3 ≤ k) where
  head : (l : List ℕ) (q : ℕ) → q < 3 → get_or (take k l) q 0 ≡ get_or l q 0
  head l q b = get_or-take k l q 0 (omega arith)

  hours-take : (p : Party) (h : ℕ) (l : List ℕ) → take k (with_hours p h l) ≡ with_hours p h (take k l)
  hours-take p h l = take-set k l _ h ∙ ap (λ (n : ℕ). set (take k l) (hours_place p n) h) (sym (head l 1 (omega arith)))

  terms_take : (p : Party) (j : ℕ) (t : Terms) (l : List ℕ) → take k (with_terms p j t l) ≡ with_terms p j t (take k l)
  terms_take p j t l =
      take_sets k l _ (numbers_of t)
      ∙ ap (λ (n : ℕ). sets (take k l) (calls.pair_place p n (pilots_of l) j) (numbers_of t)) (sym (head l 1 (omega arith)))
      ∙ ap (λ (m : ℕ). sets (take k l) (calls.pair_place p (growers_of (take k l)) m j) (numbers_of t)) (sym (head l 2 (omega arith)))

  cleared-take : (p : Party) (j : ℕ) (l : List ℕ) → take k (cleared p j l) ≡ cleared p j (take k l)
  cleared-take p zero l = ap (take k) (cleared-none p l) ∙ sym (cleared-none p (take k l))
  cleared-take p (suc j) l =
      ap (take k) (cleared_more p j l)
      ∙ terms_take p j no_terms (cleared p j l)
      ∙ ap (with_terms p j no_terms) (cleared-take p j l)
      ∙ sym (cleared_more p j (take k l))

  ended-take : (p : Party) (l : List ℕ) → take k (without_deals p l) ≡ without_deals p (take k l)
  ended-take p l = cleared-take p _ l ∙ rw (head l 1 (omega arith), head l 2 (omega arith))

  pub changed-take : (c : Call) (l : List ℕ) → take k (changed c l) ≡ changed c (take k l)
  changed-take (SetHours p h) l = go (eqb h 0)
    where
      go : (t : Bool) → take k (cond t (without_deals p (with_hours p h l)) (with_hours p h l)) ≡
          cond t (without_deals p (with_hours p h (take k l))) (with_hours p h (take k l))
      go true = ended-take p (with_hours p h l) ∙ ap (without_deals p) (hours-take p h l)
      go false = hours-take p h l
  changed-take (SetPair i j t) l = terms_take (Grower i) j t l
  changed-take NoCall l = refl

-- The front of a list that is as long as its ticket.
module _ (l : List ℕ) where
  abbrev n : ℕ
  n = growers_of l

  abbrev m : ℕ
  m = pilots_of l

  abbrev front : List ℕ
  front = take (ticket_length n m) l

  number : (q : ℕ) → q < ticket_length n m → get_or front q 0 ≡ get_or l q 0
  number q h = get_or-take (ticket_length n m) l q 0 h

  pub front_growers : growers_of front ≡ n
  front_growers = number 1 (omega arith)

  pub front_pilots : pilots_of front ≡ m
  front_pilots = number 2 (omega arith)

  -- The same calls are refused.
  same_in : (p : Party) → is_in p front ≡ is_in p l
  same_in p = rw (front_growers, front_pilots)

  same-hours : (p : Party) → is_in p l ≡ true → hours_of p front ≡ hours_of p l
  same-hours p is =
      rw front_growers (number (hours_place p n) (omega (arith, (hours-with p n m (is_in_lem p l is).one).1)))

  same_terms : (g p : Party) (t : Terms) → terms_refusal g p t front ≡ terms_refusal g p t l
  same_terms g p t = go (is_in g l && is_in p l) refl
    where
      go : (b : Bool) → (is_in g l && is_in p l) ≡ b → terms_refusal g p t front ≡ terms_refusal g p t l
      go true e =
          let f = both_hold (is_in g l) (is_in p l) e in
          rw (same_in g, same_in p, same-hours g f.0, same-hours p f.1)
      go false e = terms_of-nobody g p t front (rw (same_in g, same_in p) e) ∙ sym (terms_of-nobody g p t l e)

  pub same_refusal : (c : Call) → refusal_of c front ≡ refusal_of c l
  same_refusal (SetHours p h) = rw (same_in p)
  same_refusal (SetPair i j t) = same_terms (Grower i) (Pilot j) t
  same_refusal NoCall = refl

  -- It means the same market.
  pub pair_number : (a i j : ℕ) → a < 5 → i < n → j < m →
      get_or front (pair_place (3 + growers_of front + pilots_of front) 5 a (pilots_of front) i j) 0 ≡ get_or l (pair_place (3 + n + m) 5 a m i j) 0
  pair_number a i j ha hi hj =
      rw (front_growers, front_pilots) (number (pair_place (3 + n + m) 5 a m i j) (omega (arith, pair-below n m i j hi hj)))

  pub front_same : SameTicket (first_sixteen (ticket_of l)) (first_sixteen (ticket_of front))
  front_same = record {
    growers = ap (min 16) front_growers;
    pilots = ap (min 16) front_pilots;
    grower_hours = λ i hi. number (3 + i) (omega arith);
    pilot_hours = λ j hj. rw front_growers (number (3 + n + j) (omega arith));
    tariff_cap = λ i j hi hj. pair_number 0 i j (omega arith) (omega arith) (omega arith);
    tariff_gain = λ i j hi hj. pair_number 1 i j (omega arith) (omega arith) (omega arith);
    tariff_pay = λ i j hi hj. pair_number 2 i j (omega arith) (omega arith) (omega arith);
    free_cap = λ i j hi hj. pair_number 3 i j (omega arith) (omega arith) (omega arith);
    joint_gain = λ i j hi hj. pair_number 4 i j (omega arith) (omega arith) (omega arith);
    grower_standby = λ i hi. refl;
    pilot_standby = λ j hj. refl;
  }
