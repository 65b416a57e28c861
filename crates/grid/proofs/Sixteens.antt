-- Lists of sixteen that a loop fills one after another, whatever stands in them.
use Prim.Native.Nat.{ℕ, zero, suc, ◌+◌, ◌<◌, ◌≤◌}
use mathlib.Core.Path.{◌≡◌, refl, ◌∙◌}
use mathlib.Core.List.{List, []}
use native.Mathlib.Omega.{arith}
use lib.ListN.{get_or, length, set, replicate, length-set}
use lib.Seq.{get_or-set_same, get_or-set_other}
use Rattle.grid.proofs.Cases.{by_index}

-- the first i of sixteen have a property
pub record Made {A : Type 0} (none : A) (P : ℕ → A → Type 0) (i : ℕ) (q : List A) : Type 0 where
  pub long : length q ≡ 16
  pub made : (k : ℕ) → k < i → P k (get_or q k none)

module _ {A : Type 0} (none : A) (P : ℕ → A → Type 0) (q : List A) where
  pub made_start : length q ≡ 16 → Made none P 0 q
  made_start l = record { long = l; made = λ k h. absurd (omega arith) }

  pub made_put : (i : ℕ) (v : A) → i < 16 → P i v → Made none P i q → Made none P (i + 1) (set q i v)
  made_put i v hi pv p = record {
    long = length-set q i v ∙ p.long;
    made = by_index (λ k. k < i + 1 → P k (get_or (set q i v) k none)) i
        (λ _. rw (get_or-set_same q i v none (omega (arith, p.long))) pv)
        (λ k n h. rw (get_or-set_other q i k v none n) (p.made k (omega arith)));
  }

  pub made_all : (i n : ℕ) → n ≤ i → Made none P i q → (k : ℕ) → k < n → P k (get_or q k none)
  made_all i n h p k hk = p.made k (omega arith)

-- sixteen rows of sixteen, filled row by row: of m cells a row, the rows before i and j cells of row i have a property
pub record MadeTo {A : Type 0} (none : A) (P : ℕ → ℕ → A → Type 0) (m i j : ℕ) (q : List (List A)) : Type 0 where
  pub high : length q ≡ 16
  pub wide : (a : ℕ) → a < 16 → length (get_or q a []) ≡ 16
  pub past : (a b : ℕ) → a < i → b < m → P a b (get_or (get_or q a []) b none)
  pub here : (b : ℕ) → b < j → P i b (get_or (get_or q i []) b none)

module _ {A : Type 0} (none : A) (P : ℕ → ℕ → A → Type 0) (m : ℕ) (q : List (List A)) where
  pub made_none : length q ≡ 16 → ((a : ℕ) → a < 16 → length (get_or q a []) ≡ 16) → MadeTo none P m 0 0 q
  made_none l w = record { high = l; wide = w; past = λ a b h _. absurd (omega arith); here = λ b h. absurd (omega arith) }

  pub made_cell : (i j : ℕ) (v : A) → i < 16 → j < 16 → P i j v → MadeTo none P m i j q →
      MadeTo none P m i (j + 1) (set q i (set (get_or q i []) j v))
  made_cell i j v hi hj pv p = record {
    high = length-set q i _ ∙ p.high;
    wide = by_index (λ a. a < 16 → length (get_or (set q i row) a []) ≡ 16) i
        (λ _. rw same (length-set (get_or q i []) j v ∙ p.wide i hi))
        (λ a n ha. rw (other a n) (p.wide a ha));
    past = λ a b ha hb. rw (other a (λ e. absurd (omega arith))) (p.past a b ha hb);
    here = λ b hb. rw same (by_index (λ k. k < j + 1 → P i k (get_or row k none)) j
        (λ _. rw (get_or-set_same (get_or q i []) j v none (omega (arith, p.wide i hi))) pv)
        (λ k n h. rw (get_or-set_other (get_or q i []) j k v none n) (p.here k (omega arith))) b hb);
  }
    where
      row : List A
      row = set (get_or q i []) j v

      same : get_or (set q i row) i [] ≡ row
      same = get_or-set_same q i row [] (omega (arith, p.high))

      other : (a : ℕ) → (a ≡ i → ⊥) → get_or (set q i row) a [] ≡ get_or q a []
      other a n = get_or-set_other q i a row [] n

  pub made_row : (i j : ℕ) → m ≤ j → MadeTo none P m i j q → MadeTo none P m (i + 1) 0 q
  made_row i j h p = record {
    high = p.high;
    wide = p.wide;
    past = λ a b ha hb. by_index (λ k. k < i + 1 → P k b (get_or (get_or q k []) b none)) i
        (λ _. p.here b (omega arith)) (λ k n hk. p.past k b (omega arith) hb) a ha;
    here = λ b h. absurd (omega arith);
  }

-- a row of the same
pub same_row : {A : Type 0} (n : ℕ) (x : A) (j : ℕ) → get_or (replicate n x) j x ≡ x
same_row zero x j = refl
same_row (suc n) x zero = refl
same_row (suc n) x (suc j) = same_row n x j
