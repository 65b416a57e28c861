-- The laws of walks: what a walk passes by, what it finds, and when two walks are the same.
-- Assumes nothing.
use Prim.Native.Nat.{ℕ, ◌+◌, ◌*◌, ◌/◌, ◌%◌, ◌<◌, ◌≤◌}
use mathlib.Core.Path.{◌≡◌, sym, ◌∙◌}
use mathlib.Core.Bool.{Bool, false}
use mathlib.Core.Logic.{⊎_elim, ◌↔◌}
use native.Mathlib.Omega.{arith}
use borrow.Author.Tests.{lt-ltb, le-ltb}
use Rattle.grid.specs.First.{NoneBefore, first, by_place}
use Rattle.grid.proofs.Cases.{lt_or_le}
use Rattle.grid.proofs.FirstPlaces.{first_is, first-first}
use Rattle.grid.proofs.Places.{inside, within, cell_place, at_place, row_within}
use Rattle.market.specs.declared.Deal.{Deal}
use Rattle.market.specs.declared.Deal.TheVariants.{Tariff, Free}
use Rattle.verdicts.specs.declared.Verdict.{Verdict}
use Rattle.marker.specs.Verdict.{by_pair, deal_at, walk}

-- tests that agree have the same first place
pub first-same : (f g : ℕ → Bool) (k : ℕ) → ((p : ℕ) → p < k → f p ≡ g p) → first f k ≡ first g k
first-same f g k same =
    let s = first-first g k in
    first_is f k (first g k) s.below (λ q h. same q (omega (arith, s.below)) ∙ s.before q h) (λ h. same _ h ∙ s.there h)

module _ (test : ℕ → Bool) (k : ℕ) (found : ℕ → Verdict) (after : Verdict) where
  -- the verdict of a walk, from the place that a search gave
  pub walk_found : (p : ℕ) → p ≡ first test k → p < k → found p ≡ walk test k found after
  walk_found p e h = rw (← e, lt-ltb p k h)

  pub walk_on : (p : ℕ) → p ≡ first test k → k ≤ p → after ≡ walk test k found after
  walk_on p e h = rw (← e, le-ltb p k h)

  -- a walk that finds nothing
  pub walk_passes : NoneBefore test k → walk test k found after ≡ after
  walk_passes n = sym (walk_on k (sym (first_is test k k (omega arith) n (λ h. absurd (omega arith)))) (omega arith))

  -- a walk whose verdict is one that no place which it finds has
  pub walk-passed : (P : Verdict → Type 0) → ((p : ℕ) → P (found p) → ⊥) → P (walk test k found after) → NoneBefore test k × P after
  walk-passed P never e =
      let s = first-first test k in
      let p = first test k in
      ⊎_elim
      (λ h. absurd (never p (rw (lt-ltb p k h) at e)))
      (λ h. ((λ q l. s.before q (omega arith)), rw (le-ltb p k h) at e))
      (lt_or_le p k)

-- no place is at fault, and no pair
pub none-pairs : (g : ℕ → ℕ → Bool) (n m : ℕ) → NoneBefore (by_pair g m) (n * m) ↔ ((i j : ℕ) → i < n → j < m → g i j ≡ false)
none-pairs g n m = (
  λ all i j hi hj. let e = cell_place m i j hj in
      rw (e.0, e.1) at (all (i * m + j) (omega (arith, row_within i n m hi))),
  λ all p h. let w = inside n m p h in all (p / m) (p % m) w.grower w.pilot,
)

-- no place is at fault, and no deal
pub none_deals : (g : Deal → ℕ → ℕ → Bool) (n m : ℕ) →
    NoneBefore (by_place (λ i j d. g (deal_at d) i j) m) (2 * (n * m)) ↔ ((d : Deal) (i j : ℕ) → i < n → j < m → g d i j ≡ false)
none_deals g n m = (there, λ all p h. let w = within n m p h in all (deal_at (p % 2)) (p / 2 / m) (p / 2 % m) w.grower w.pilot)
  where
    place : NoneBefore (by_place (λ i j d. g (deal_at d) i j) m) (2 * (n * m)) → (i j d : ℕ) → i < n → j < m → d < 2 → g (deal_at d) i j ≡ false
    place all i j d hi hj hd =
        sym (at_place (λ i j d. g (deal_at d) i j) m i j d hj hd)
        ∙ all (2 * (i * m + j) + d) (omega (arith, row_within i n m hi))

    there : NoneBefore (by_place (λ i j d. g (deal_at d) i j) m) (2 * (n * m)) → (d : Deal) (i j : ℕ) → i < n → j < m → g d i j ≡ false
    there all Tariff i j hi hj = place all i j 0 hi hj (omega arith)
    there all Free i j hi hj = place all i j 1 hi hj (omega arith)
