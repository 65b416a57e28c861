-- Filling a square row by row in two loops, for any values and whatever it held before: the invariant `Part` of both, and its steps.
use mathlib.Core.Path.{◌≡◌, refl, sym, ◌∙◌}
use mathlib.Core.Logic.{inl, inr, ⊎_elim}
use Prim.Native.Nat.{ℕ, ◌+◌, ◌<◌, ◌≤◌}
use native.Mathlib.Omega.{arith}
use Rattle.grid.specs.Grid.{Grid, at, put, Square}
use Rattle.grid.specs.Fill.{Filled, FilledOver}
use Rattle.grid.proofs.Cases.{by_cell, lt_or_le, eq_or_ne}
use Rattle.grid.proofs.Squares.{put_square, at-put-same, at-put_other, square_ext}

-- the rows before i, and j cells of row i
pub record Part (before : Grid) (val : ℕ → ℕ → ℕ) (m i j : ℕ) (q : Grid) : Type 0 where
  pub square : Square q
  pub past : (a b : ℕ) → a < i → b < m → at q a b ≡ val a b
  pub here : (a b : ℕ) → a ≡ i → b < j → at q a b ≡ val a b
  pub rest : (a b : ℕ) → (a < i → m ≤ b) → (a ≡ i → j ≤ b) → at q a b ≡ at before a b

-- what the loop over a row does to a square, whatever it held before
abbrev pub RowPart : (ℕ → ℕ → ℕ) → ℕ → ℕ → ℕ → Grid → Grid → Type 0
RowPart val m i j start q = (before : Grid) → Part before val m i 0 start → Part before val m i j q

pub part-start : (val : ℕ → ℕ → ℕ) (m : ℕ) (q : Grid) → Square q → Part q val m 0 0 q
part-start val m q s = record {
  square = s;
  past = λ a b h _. absurd (omega arith);
  here = λ a b e h. absurd (omega arith);
  rest = λ a b _ _. refl;
}

module _ (before : Grid) (val : ℕ → ℕ → ℕ) (m : ℕ) where
  pub part-put : (q : Grid) (i j v : ℕ) → i < 16 → j < m → m ≤ 16 → v < 65536 → v ≡ val i j → Part before val m i j q →
      Part before val m i (j + 1) (put q i j v)
  part-put q i j v hi hj hm hv e p = record {
    square = put_square q p.square i j v hi (omega arith) hv;
    past = λ a b ha hb. at-put_other q i j v a b (λ f. absurd (omega (arith, f.0))) ∙ p.past a b ha hb;
    here =
        by_cell (λ a b. a ≡ i → b < j + 1 → at (put q i j v) a b ≡ val a b) i j
        (λ _ _. at-put-same q p.square i j v hi (omega arith) ∙ e)
        (λ a b n f h. at-put_other q i j v a b n ∙ p.here a b f (⊎_elim (λ l. l) (λ g. absurd (n (f, omega arith))) (lt_or_le b j)));
    rest = λ a b f g. at-put_other q i j v a b (λ h. absurd (omega (arith, g h.0, h.1))) ∙ p.rest a b f (λ h. omega (arith, g h));
  }

  pub part_row : (q : Grid) (i j : ℕ) → m ≤ j → j ≤ m → Part before val m i j q → Part before val m (i + 1) 0 q
  part_row q i j l h p = record {
    square = p.square;
    past = λ a b ha hb. ⊎_elim (λ e. p.here a b e (omega arith)) (λ n. p.past a b (omega arith) hb) (eq_or_ne a i);
    here = λ a b e h. absurd (omega arith);
    rest = λ a b f g. p.rest a b (λ x. f (omega arith)) (λ x. omega (arith, f (omega arith)));
  }

  pub part_end : (q : Grid) (i n : ℕ) → n ≤ i → i ≤ n → Part before val m i 0 q → FilledOver before val n m q
  part_end q i n l h p = record {
    square = p.square;
    inner = λ a b ha hb. p.past a b (omega arith) hb;
    outer = λ a b o.
        ⊎_elim (λ x. p.rest a b (λ y. absurd (omega arith)) (λ y. omega arith)) (λ x. p.rest a b (λ y. x) (λ y. omega arith)) o;
  }

-- a square whose extent is given by an equation
pub filled_as : (before : Grid) (val : ℕ → ℕ → ℕ) (n m n' m' : ℕ) (q : Grid) → n ≡ n' → m ≡ m' → FilledOver before val n m q →
    FilledOver before val n' m' q
filled_as before val n m n' m' q e f p = rw (e, f) at p

-- a square that held 0 everywhere holds 0 elsewhere
pub filled_zeros : (before : Grid) (val : ℕ → ℕ → ℕ) (n m : ℕ) (q : Grid) → ((i j : ℕ) → at before i j ≡ 0) → FilledOver before val n m
    q → Filled val n m q
filled_zeros before val n m q zero f = record { square = f.square; inner = f.inner; outer = λ i j o. f.outer i j o ∙ zero i j }

-- there is one such square
pub filled-one : (val : ℕ → ℕ → ℕ) (n m : ℕ) (p q : Grid) → Filled val n m p → Filled val n m q → p ≡ q
filled-one val n m p q f g = square_ext p q f.square g.square (λ i j _ _.
    ⊎_elim
    (λ hi. ⊎_elim (λ hj. f.inner i j hi hj ∙ sym (g.inner i j hi hj)) (λ hj. f.outer i j (inr hj) ∙ sym (g.outer i j (inr hj)))
    (lt_or_le j m))
    (λ hi. f.outer i j (inl hi) ∙ sym (g.outer i j (inl hi)))
    (lt_or_le i n))
