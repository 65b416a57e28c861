-- What is known of squares: that an array is one, and what a store into a cell changes.
use mathlib.Core.Path.{◌≡◌, sym, ◌∙◌, ap, subst}
use mathlib.Core.List.{List, [], ◌∷◌}
use mathlib.Core.Logic.{⊎_elim}
use Prim.Native.Nat.{ℕ, zero, suc, ◌<◌, ◌≤◌}
use native.Mathlib.Nat.{le_of_suc-le-suc, not-suc-le-zero}
use native.Mathlib.Omega.{arith}
use lib.Dec.{lit<}
use lib.ListN.{length, get_or, set, length-set, get_or-eq_default}
use lib.Seq.{get_or-set_same, get_or-set_other, set_out, ext_get_or}
use mir.Syntax.{w16}
use mir.Val.{Val}
use denote.Laws.{Is}
use denote.Shadow.{shadow}
use denote.Plain.{UInt}
use denote.Array.{Array, each}
use Rattle.grid.specs.Grid.{Grid, at, put, Row, Square}
use Rattle.grid.proofs.Cases.{lt_or_le, eq_or_ne, by_index, by_cell}

-- every element of an array of 16-bit numbers is below 65536
nil_small : (j : ℕ) → get_or [] j 0 < 65536
nil_small j = lit< tt

row_small : (r : List ℕ) (us : List Val) → shadow (each ℕ (UInt w16).own_val r us) → (j : ℕ) → get_or r j 0 < 65536
row_small [] us s j = lit< tt
row_small (x ∷ r) [] s j = absurd s
row_small (x ∷ r) (u ∷ us) s zero = s.0.1
row_small (x ∷ r) (u ∷ us) s (suc j) = row_small r us s.1 j

pub row_is : (r : List ℕ) (vs : List Val) → Is (Array (UInt w16) 16) r vs → Row r
row_is r vs p = record { long = p.1.0.1; small = row_small r p.0 p.1.1 }

rows : (q : Grid) (us : List Val) → shadow (each (List ℕ) (Array (UInt w16) 16).own_val q us) → (i : ℕ) → i < length q → Row (get_or q i [])
rows [] us s i h = absurd (not-suc-le-zero h)
rows (r ∷ q) [] s i h = absurd s
rows (r ∷ q) (u ∷ us) s zero h = row_is r (u ∷ []) s.0
rows (r ∷ q) (u ∷ us) s (suc i) h = rows q us s.1 i (le_of_suc-le-suc h)

outside : (q : Grid) (i j : ℕ) → length q ≤ i → at q i j < 65536
outside q i j h = rw (get_or-eq_default q [] h) (nil_small j)

pub square_is : (q : Grid) (vs : List Val) → Is (Array (Array (UInt w16) 16) 16) q vs → Square q
square_is q vs p = record {
  high = p.1.0.1;
  wide = λ i h. (rows q p.0 p.1.1 i (omega (arith, p.1.0.1))).long;
  small = λ i j. ⊎_elim (λ h. (rows q p.0 p.1.1 i h).small j) (λ h. outside q i j h) (lt_or_le i (length q));
}

-- nothing stands outside
pub at-below : (q : Grid) → Square q → (i j : ℕ) → 16 ≤ i → at q i j ≡ 0
at-below q s i j h = ap (λ (r : List ℕ). get_or r j 0) (get_or-eq_default q [] (omega (arith, s.high)))

pub at_beside : (q : Grid) → Square q → (i j : ℕ) → 16 ≤ j → at q i j ≡ 0
at_beside q s i j h =
    ⊎_elim (λ l. get_or-eq_default (get_or q i []) 0 (omega (arith, s.wide i l))) (λ l. at-below q s i j l) (lt_or_le i 16)

-- a store read back
pub at-put-same : (q : Grid) → Square q → (i j v : ℕ) → i < 16 → j < 16 → at (put q i j v) i j ≡ v
at-put-same q s i j v hi hj =
    rw (get_or-set_same q i (set (get_or q i []) j v) [] (omega (arith, s.high)))
    (get_or-set_same (get_or q i []) j v 0 (omega (arith, s.wide i hi)))

pub at-put_row : (q : Grid) (i j v a b : ℕ) → (a ≡ i → ⊥) → at (put q i j v) a b ≡ at q a b
at-put_row q i j v a b n = ap (λ (r : List ℕ). get_or r b 0) (get_or-set_other q i a (set (get_or q i []) j v) [] n)

same_row : (q : Grid) (i j v b : ℕ) → (b ≡ j → ⊥) → at (put q i j v) i b ≡ at q i b
same_row q i j v b n =
    ⊎_elim
    (λ h. rw (get_or-set_same q i (set (get_or q i []) j v) [] h) (get_or-set_other (get_or q i []) j b v 0 n))
    (λ h. rw (set_out q i (set (get_or q i []) j v) h))
    (lt_or_le i (length q))

pub at-put_col : (q : Grid) (i j v a b : ℕ) → (b ≡ j → ⊥) → at (put q i j v) a b ≡ at q a b
at-put_col q i j v a b n =
    ⊎_elim (λ e. subst (λ (k : ℕ). at (put q i j v) k b ≡ at q k b) (sym e) (same_row q i j v b n)) (λ m. at-put_row q i j v a b m)
    (eq_or_ne a i)

pub at-put_other : (q : Grid) (i j v a b : ℕ) → ((a ≡ i) × (b ≡ j) → ⊥) → at (put q i j v) a b ≡ at q a b
at-put_other q i j v a b n = ⊎_elim (λ e. at-put_col q i j v a b (λ f. n (e, f))) (λ m. at-put_row q i j v a b m) (eq_or_ne a i)

pub put_square : (q : Grid) → Square q → (i j v : ℕ) → i < 16 → j < 16 → v < 65536 → Square (put q i j v)
put_square q s i j v hi hj hv = record {
  high = length-set q i (set (get_or q i []) j v) ∙ s.high;
  wide =
      by_index (λ a. a < 16 → length (get_or (put q i j v) a []) ≡ 16) i
      (λ _. rw (get_or-set_same q i (set (get_or q i []) j v) [] (omega (arith, s.high))) (length-set (get_or q i []) j v ∙ s.wide i hi))
      (λ a n ha. rw (get_or-set_other q i a (set (get_or q i []) j v) [] n) (s.wide a ha));
  small =
      by_cell (λ a b. at (put q i j v) a b < 65536) i j (rw (at-put-same q s i j v hi hj) hv)
      (λ a b n. rw (at-put_other q i j v a b n) (s.small a b));
}

-- two squares that agree in every cell are one
pub square_ext : (p q : Grid) → Square p → Square q → ((i j : ℕ) → i < 16 → j < 16 → at p i j ≡ at q i j) → p ≡ q
square_ext p q sp sq h =
    ext_get_or [] p q (sp.high ∙ sym sq.high)
    (λ i hi. let ki : i < 16 = omega (arith, sp.high) in
    ext_get_or 0 (get_or p i []) (get_or q i []) (sp.wide i ki ∙ sym (sq.wide i ki))
    (λ j hj. h i j ki (omega (arith, sp.wide i ki))))
