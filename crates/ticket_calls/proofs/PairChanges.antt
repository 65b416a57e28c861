-- The five numbers of a pair stored into a ticket's list, and those of all pairs of a party: what stands then in every pair.
-- Assumes nothing.
use Prim.Native.Nat.{ℕ, zero, suc, ◌+◌, ◌*◌, ◌≤◌, ◌<◌}
use mathlib.Core.Bool.{true}
use mathlib.Core.Logic.{◌⊎◌, inl, inr, ⊎_elim}
use mathlib.Core.Path.{◌≡◌, refl, sym, ap, ◌∙◌}
use mathlib.Core.List.{List}
use native.Mathlib.Omega.{arith}
use lib.ListN.{get_or, length}
use lib.Seq.{sets, length-sets}
use Rattle.grid.proofs.Cases.{lt_or_le, eq_or_ne}
use Rattle.grid.proofs.Places.{cell_place}
use Rattle.offers.specs.declared.Terms.{Terms}
use Rattle.reader.proofs.Facts.{pair-below}
use Rattle.reader.proofs.TicketNumbers.{pair_start}
use Rattle.tables.specs.View.{growers_of, pilots_of, ticket_length}
use Rattle.ticket_calls.specs.declared.Party.{Party}
use Rattle.ticket_calls.specs.declared.Party.TheVariants.{Grower, Pilot}
use Rattle.ticket_calls.specs.Calls.{is_one, partners, pair_place, numbers_of, no_terms, with_terms, cleared}
use Rattle.ticket_calls.proofs.Stores.{sets_before, sets_after, sets_there}
use Rattle.ticket_calls.proofs.PartyLaws.{grower_with, pilot_with, pair-with}
use Rattle.ticket_calls.proofs.ChangeLaws.{cleared-none, cleared_more, cleared_head}

-- Pairs of the same place are the same.
same-pair : (m i j k l : ℕ) → j < m → l < m → i * m + j ≡ k * m + l → (i ≡ k) × (j ≡ l)
same-pair m i j k l hj hl e =
    let a = cell_place m i j hj in
    let b = cell_place m k l hl in
    (sym a.0 ∙ rw e b.0, sym a.1 ∙ rw e b.1)

-- The numbers of the pair i j are set in a list of n growers and m pilots.
module _ (xs : List ℕ) (n m i j : ℕ) (t : Terms) (count : length xs ≡ ticket_length n m) (hi : i < n) (hj : j < m) (place : ℕ)
    (e : place ≡ pair_start n m i j) where
  abbrev stored : List ℕ
  stored = sets xs place (numbers_of t)

  stored_there : (a : ℕ) → a < 5 → get_or stored (pair_start n m i j + a) 0 ≡ get_or (numbers_of t) a 0
  stored_there a h =
      sets_there xs place (numbers_of t) a (pair_start n m i j + a) (omega (arith, count, e, pair-below n m i j hi hj)) h (omega (arith, e))

  stored_other : (k l : ℕ) → k < n → l < m → ((k ≡ i) × (l ≡ j) → ⊥) → (a : ℕ) → a < 5 →
      get_or stored (pair_start n m k l + a) 0 ≡ get_or xs (pair_start n m k l + a) 0
  stored_other k l hk hl ne a h =
      ⊎_elim
      (λ b. sets_before xs place (numbers_of t) (pair_start n m k l + a) (omega (arith, e, b)))
      (λ b. ⊎_elim
      (λ f. absurd (ne (same-pair m k l i j hl hj f)))
      (λ f. sets_after xs place (numbers_of t) (pair_start n m k l + a) (omega (arith, e, b, later b f)))
      (eq_or_ne (k * m + l) (i * m + j)))
      (lt_or_le (k * m + l) (i * m + j))
    where
      later : i * m + j ≤ k * m + l → (k * m + l ≡ i * m + j → ⊥) → i * m + j < k * m + l
      later b f = ⊎_elim (λ g. g) (λ g. absurd (f (omega (arith, b, g)))) (lt_or_le (i * m + j) (k * m + l))

  stored_before : (q : ℕ) → q < 3 + n + m → get_or stored q 0 ≡ get_or xs q 0
  stored_before q h = sets_before xs place (numbers_of t) q (omega (arith, e))

-- Whether a party is of the pair i j: then with this partner, or else with none.
abbrev pub NotOf : Party → ℕ → ℕ → Type 0
NotOf p i j = (k : ℕ) → (i ≡ grower_with p k) × (j ≡ pilot_with p k) → ⊥

pub record Of (p : Party) (i j n m : ℕ) : Type 0 where
  pub partner : ℕ
  pub few : partner < partners p n m
  pub grower : i ≡ grower_with p partner
  pub pilot : j ≡ pilot_with p partner

pub of_party : (p : Party) (i j n m : ℕ) → i < n → j < m → Of p i j n m ⊎ NotOf p i j
of_party (Grower g) i j n m hi hj =
    ⊎_elim (λ e. inl (record { partner = j; few = hj; grower = e; pilot = refl })) (λ e. inr (λ k f. e f.0)) (eq_or_ne i g)
of_party (Pilot g) i j n m hi hj =
    ⊎_elim (λ e. inl (record { partner = i; few = hi; grower = refl; pilot = e })) (λ e. inr (λ k f. e f.1)) (eq_or_ne j g)

other_partner : (p : Party) (k l : ℕ) → (grower_with p k ≡ grower_with p l) × (pilot_with p k ≡ pilot_with p l) → k ≡ l
other_partner (Grower g) k l e = e.1
other_partner (Pilot g) k l e = e.0

nothing : (a : ℕ) → a < 5 → get_or (numbers_of no_terms) a 0 ≡ 0
nothing zero h = refl
nothing (suc zero) h = refl
nothing (suc (suc zero)) h = refl
nothing (suc (suc (suc zero))) h = refl
nothing (suc (suc (suc (suc zero)))) h = refl
nothing (suc (suc (suc (suc (suc a))))) h = absurd (omega arith)

-- A party of a list: the numbers of its pair with a partner are set, and those of its pairs are cleared.
module _ (p : Party) (xs : List ℕ) (n m : ℕ) (en : growers_of xs ≡ n) (em : pilots_of xs ≡ m) (count : length xs ≡ ticket_length n m)
    (one : is_one p n m ≡ true) where
  place_is : (k : ℕ) → k < partners p n m → pair_place p (growers_of xs) (pilots_of xs) k ≡ pair_start n m (grower_with p k) (pilot_with p k)
  place_is k h = rw (en, em) (pair-with p n m k one h).2

  module _ (k : ℕ) (t : Terms) (h : k < partners p n m) where
    pub terms_there : (a : ℕ) → a < 5 → get_or (with_terms p k t xs) (pair_start n m (grower_with p k) (pilot_with p k) + a) 0 ≡
        get_or (numbers_of t) a 0
    terms_there = let w = pair-with p n m k one h in stored_there xs n m _ _ t count w.0 w.1 _ (place_is k h)

    pub terms_other : (i j : ℕ) → i < n → j < m → ((i ≡ grower_with p k) × (j ≡ pilot_with p k) → ⊥) → (a : ℕ) → a < 5 →
        get_or (with_terms p k t xs) (pair_start n m i j + a) 0 ≡ get_or xs (pair_start n m i j + a) 0
    terms_other = let w = pair-with p n m k one h in stored_other xs n m _ _ t count w.0 w.1 _ (place_is k h)

    pub terms_before : (q : ℕ) → q < 3 + n + m → get_or (with_terms p k t xs) q 0 ≡ get_or xs q 0
    terms_before = let w = pair-with p n m k one h in stored_before xs n m _ _ t count w.0 w.1 _ (place_is k h)

pub cleared_long : (p : Party) (k : ℕ) (xs : List ℕ) → length (cleared p k xs) ≡ length xs
cleared_long p zero xs = ap length (cleared-none p xs)
cleared_long p (suc k) xs =
    ap length (cleared_more p k xs) ∙ length-sets (cleared p k xs) _ (numbers_of no_terms) ∙ cleared_long p k xs

module _ (p : Party) (xs : List ℕ) (n m : ℕ) (en : growers_of xs ≡ n) (em : pilots_of xs ≡ m) (count : length xs ≡ ticket_length n m)
    (one : is_one p n m ≡ true) where
  -- one pair more, in any place
  step_there : (k : ℕ) → k < partners p n m → (a : ℕ) → a < 5 →
      get_or (cleared p (suc k) xs) (pair_start n m (grower_with p k) (pilot_with p k) + a) 0 ≡ 0
  step_there k h a ha =
      ap (λ (l : List ℕ). get_or l (pair_start n m (grower_with p k) (pilot_with p k) + a) 0) (cleared_more p k xs)
      ∙ terms_there p (cleared p k xs) n m (cleared_head p k xs 1 (omega arith) ∙ en) (cleared_head p k xs 2 (omega arith) ∙ em)
      (cleared_long p k xs ∙ count) one k no_terms h a ha
      ∙ nothing a ha

  step_other : (k : ℕ) → k < partners p n m → (i j : ℕ) → i < n → j < m → ((i ≡ grower_with p k) × (j ≡ pilot_with p k) → ⊥) →
      (a : ℕ) → a < 5 → get_or (cleared p (suc k) xs) (pair_start n m i j + a) 0 ≡ get_or (cleared p k xs) (pair_start n m i j + a) 0
  step_other k h i j hi hj ne a ha =
      ap (λ (l : List ℕ). get_or l (pair_start n m i j + a) 0) (cleared_more p k xs)
      ∙ terms_other p (cleared p k xs) n m (cleared_head p k xs 1 (omega arith) ∙ en) (cleared_head p k xs 2 (omega arith) ∙ em)
      (cleared_long p k xs ∙ count) one k no_terms h i j hi hj ne a ha

  pub cleared-with : (k : ℕ) → k ≤ partners p n m → (l : ℕ) → l < k → (a : ℕ) → a < 5 →
      get_or (cleared p k xs) (pair_start n m (grower_with p l) (pilot_with p l) + a) 0 ≡ 0
  cleared-with zero h l hl a ha = absurd (omega arith)
  cleared-with (suc k) h l hl a ha =
      ⊎_elim
      (λ e. rw e (step_there k (omega arith) a ha))
      (λ e. let w = pair-with p n m l one (omega arith) in
      step_other k (omega arith) _ _ w.0 w.1 (λ f. e (other_partner p l k f)) a ha
      ∙ cleared-with k (omega arith) l (omega (arith, less e)) a ha)
      (eq_or_ne l k)
    where
      less : (l ≡ k → ⊥) → l < k
      less e = ⊎_elim (λ g. g) (λ g. absurd (e (omega (arith, g)))) (lt_or_le l k)

  pub cleared_other : (k : ℕ) → k ≤ partners p n m → (i j : ℕ) → i < n → j < m → NotOf p i j → (a : ℕ) → a < 5 →
      get_or (cleared p k xs) (pair_start n m i j + a) 0 ≡ get_or xs (pair_start n m i j + a) 0
  cleared_other zero h i j hi hj ne a ha = ap (λ (l : List ℕ). get_or l (pair_start n m i j + a) 0) (cleared-none p xs)
  cleared_other (suc k) h i j hi hj ne a ha =
      step_other k (omega arith) i j hi hj (ne k) a ha ∙ cleared_other k (omega arith) i j hi hj ne a ha

  pub cleared_before : (k : ℕ) → k ≤ partners p n m → (q : ℕ) → q < 3 + n + m → get_or (cleared p k xs) q 0 ≡ get_or xs q 0
  cleared_before zero h q hq = ap (λ (l : List ℕ). get_or l q 0) (cleared-none p xs)
  cleared_before (suc k) h q hq =
      ap (λ (l : List ℕ). get_or l q 0) (cleared_more p k xs)
      ∙ terms_before p (cleared p k xs) n m (cleared_head p k xs 1 (omega arith) ∙ en) (cleared_head p k xs 2 (omega arith) ∙ em)
      (cleared_long p k xs ∙ count) one k no_terms (omega arith) q hq
      ∙ cleared_before k (omega arith) q hq
