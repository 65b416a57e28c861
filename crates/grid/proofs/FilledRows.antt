-- Rows that are filled number by number.
-- Assumes nothing.
use Prim.Native.Nat.{ℕ, ◌+◌, ◌<◌}
use mathlib.Core.Path.{◌≡◌, ◌∙◌}
use mathlib.Core.List.{List}
use native.Mathlib.Omega.{arith}
use lib.ListN.{get_or, set, length-set}
use lib.Seq.{get_or-set_same, get_or-set_other}
use Rattle.grid.specs.Grid.{Row}
use Rattle.grid.specs.Fill.{FilledRow}
use Rattle.grid.proofs.Cases.{by_index}

-- a row whose extent is given by an equation
pub row_as : (val : ℕ → ℕ) (n n' : ℕ) (r : List ℕ) → n ≡ n' → FilledRow val n r → FilledRow val n' r
row_as val n n' r e p = rw e at p

module _ (val : ℕ → ℕ) (r : List ℕ) where
  pub row_start : Row r → ((j : ℕ) → get_or r j 0 ≡ 0) → FilledRow val 0 r
  row_start s z = record { row = s; inner = λ i h. absurd (omega arith); outer = λ i h. z i }

  pub row_put : (i v : ℕ) → i < 16 → v < 65536 → v ≡ val i → FilledRow val i r → FilledRow val (i + 1) (set r i v)
  row_put i v hi hv e p = record {
    row = record {
      long = length-set r i v ∙ p.row.long;
      small = by_index (λ k. get_or (set r i v) k 0 < 65536) i (rw (same) hv) (λ k n. rw (get_or-set_other r i k v 0 n) (p.row.small k));
    };
    inner = by_index (λ k. k < i + 1 → get_or (set r i v) k 0 ≡ val k) i (λ _. same ∙ e)
        (λ k n h. get_or-set_other r i k v 0 n ∙ p.inner k (omega arith));
    outer = λ k h. get_or-set_other r i k v 0 (λ f. omega arith) ∙ p.outer k (omega arith);
  }
    where
      same : get_or (set r i v) i 0 ≡ v
      same = get_or-set_same r i v 0 (omega (arith, p.row.long))
