-- Writing the numbers of a settlement, pair by pair.
-- Assumes nothing.
use Prim.Native.Nat.{ℕ, zero, suc, ◌+◌, ◌*◌, ◌/◌, ◌%◌, ◌≤◌, ◌<◌}
use mathlib.Core.Path.{◌≡◌, refl, ap, ◌∙◌}
use mathlib.Core.List.{List}
use mathlib.Core.Logic.{⊎_elim}
use native.Mathlib.Omega.{arith}
use lib.ListN.{get_or, set, length, replicate, length-set, get_or-replicate, get_or-eq_default}
use lib.Seq.{get_or-set_same, get_or-set_other}
use Rattle.grid.specs.Grid.{Grid}
use Rattle.grid.proofs.Cases.{by_index, lt_or_le}
use Rattle.grid.proofs.Places.{cell_place, row_within}
use Rattle.settler.specs.Listing.{nth, Blank, Written, number_of, Listed}

pub blank : (l : List ℕ) → l ≡ replicate 771 0 → length l ≡ 771 → Blank l
blank l e long = record {
  long = long;
  zeros = λ p. ⊎_elim
      (λ h. rw e (get_or-replicate 771 p 0 0 h))
      (λ h. get_or-eq_default l 0 {n = p} (omega (arith, long)))
      (lt_or_le p 771);
}

module _ (l : List ℕ) (p x y z : ℕ) (room : p + 2 < length l) where
  abbrev one : List ℕ
  one = set l p x

  abbrev two : List ℕ
  two = set one (p + 1) y

  three_there : (k q : ℕ) → k < 3 → q ≡ p + k → get_or (set two (p + 2) z) q 0 ≡ nth x y z k
  three_there zero q h e = get_or-set_other two (p + 2) q z 0 (λ f. omega arith) ∙ get_or-set_other one (p + 1) q y 0 (λ f. omega arith) ∙
      ap (λ (a : ℕ). get_or one a 0) (omega arith) ∙ get_or-set_same l p x 0 (omega arith)
  three_there (suc zero) q h e = get_or-set_other two (p + 2) q z 0 (λ f. omega arith) ∙ ap (λ (a : ℕ). get_or two a 0) e ∙
      get_or-set_same one (p + 1) y 0 (omega (arith, length-set l p x))
  three_there (suc (suc zero)) q h e = ap (λ (a : ℕ). get_or (set two (p + 2) z) a 0) e ∙
      get_or-set_same two (p + 2) z 0 (omega (arith, length-set one (p + 1) y, length-set l p x))
  three_there (suc (suc (suc k))) q h e = absurd (omega arith)

  three_beside : (q : ℕ) → ((q ≡ p → ⊥) × (q ≡ p + 1 → ⊥) × (q ≡ p + 2 → ⊥)) → get_or (set two (p + 2) z) q 0 ≡ get_or l q 0
  three_beside q n = get_or-set_other two (p + 2) q z 0 n.2 ∙ get_or-set_other one (p + 1) q y 0 n.1 ∙ get_or-set_other l p q x 0 n.0

  pub three_written : Written l (set two (p + 2) z) p x y z
  three_written = record {
    long = length-set two (p + 2) z ∙ length-set one (p + 1) y ∙ length-set l p x;
    there = λ k h. three_there k (p + k) h refl;
    before = λ q h. three_beside q (λ e. omega arith, λ e. omega arith, λ e. omega arith);
    after = λ q h. three_beside q (λ e. omega arith, λ e. omega arith, λ e. omega arith);
  }

module _ (n m : ℕ) (tariff_hours free_deal_hours pay : Grid) where
  -- the head and the numbers of the first c pairs stand in the list; pair p is grower p / m and pilot p % m
  pub record ListedTo (c : ℕ) (l : List ℕ) : Type 0 where
    pub long : length l ≡ 771
    pub head : (k : ℕ) → k < 3 → get_or l k 0 ≡ nth 2 n m k
    pub pairs : (k p : ℕ) → k < 3 → p < c → get_or l (3 + 3 * p + k) 0 ≡ number_of tariff_hours free_deal_hours pay k (p / m) (p % m)
    pub rest : (p : ℕ) → 3 + 3 * c ≤ p → get_or l p 0 ≡ 0

  pub listed_start : (l l' : List ℕ) (g p : ℕ) → Blank l → g ≡ n → p ≡ m → Written l l' 0 2 g p → ListedTo 0 l'
  listed_start l l' g p blank eg ep w = record {
    long = w.long ∙ blank.long;
    head = λ k h. ap (λ (q : ℕ). get_or l' q 0) (omega arith) ∙ (rw (eg, ep) at (w.there k h));
    pairs = λ k q hk h. absurd (omega arith);
    rest = λ q h. w.after q (omega arith) ∙ blank.zeros q;
  }

  pub listed_more : (c : ℕ) (l l' : List ℕ) (x y z : ℕ) →
      ((k : ℕ) → nth x y z k ≡ number_of tariff_hours free_deal_hours pay k (c / m) (c % m)) →
      Written l l' (3 + 3 * c) x y z → ListedTo c l → ListedTo (c + 1) l'
  listed_more c l l' x y z e w s = record {
    long = w.long ∙ s.long;
    head = λ k h. w.before k (omega arith) ∙ s.head k h;
    pairs = λ k. by_index
        (λ p. k < 3 → p < c + 1 → get_or l' (3 + 3 * p + k) 0 ≡ number_of tariff_hours free_deal_hours pay k (p / m) (p % m)) c
        (λ hk _. w.there k hk ∙ e k)
        (λ p ne hk h. w.before (3 + 3 * p + k) (omega arith) ∙ s.pairs k p hk (omega arith));
    rest = λ p h. w.after p (omega arith) ∙ s.rest p (omega arith);
  }

  pub listed_end : (c : ℕ) (l : List ℕ) → n * m ≡ c → ListedTo c l → Listed n m tariff_hours free_deal_hours pay l
  listed_end c l h s = record {
    head = s.head;
    pairs = λ k i j hk hi hj.
        let e = cell_place m i j hj in
        rw (e.0, e.1) at (s.pairs k (i * m + j) hk (omega (arith, row_within i n m hi)));
    rest = λ p l. s.rest p (omega arith);
  }
