-- Rows without the hours of the deal itself: what the cheapest spare counts in.
-- Assumes nothing.
use Rattle.std.specs.Prelude.{None, Option}
use Prim.Native.Nat.{ℕ, ◌<◌, ◌≤◌}
use mathlib.Core.Path.{◌≡◌, refl, ◌∙◌}
use mathlib.Core.Logic.{⊎_elim}
use mathlib.Core.Bool.{cond}
use mathlib.Core.List.{List}
use native.Mathlib.Omega.{arith}
use lib.Dec.{eqb}
use lib.ListN.{get_or, set, length, get_or-eq_default}
use lib.Seq.{get_or-set_same, get_or-set_other, set_out}
use borrow.Author.Tests.{eq-eqb, ne_eqb}
use Rattle.grid.proofs.Cases.{eq_or_ne, lt_or_le}
use Rattle.market.specs.declared.Deal.{Deal}
use Rattle.market.specs.declared.Deal.TheVariants.{Tariff, Free}
use Rattle.verdicts.specs.Tests.{count_in, cheapest_of, besides, cheapest_spare, lines}
use Rattle.verdicts.proofs.Spares.{cheapest_same}

-- a row whose number at y is made 0; beyond its end it has zeros anyway
zero-at : (r : List ℕ) (y l : ℕ) → get_or (set r y 0) l 0 ≡ cond (eqb l y) 0 (get_or r l 0)
zero-at r y l = ⊎_elim (λ e. rw (eq-eqb l y e, e) here) (λ n. rw (ne_eqb l y n) (get_or-set_other r y l 0 0 n)) (eq_or_ne l y)
  where
    here : get_or (set r y 0) y 0 ≡ 0
    here = ⊎_elim (λ h. get_or-set_same r y 0 0 h) (λ h. rw (set_out r y 0 h) (get_or-eq_default r 0 h)) (lt_or_le y (length r))

-- a row before the place that is made 0
before_zero : (r : List ℕ) (y l : ℕ) → l < y → get_or (set r y 0) l 0 ≡ get_or r l 0
before_zero r y l h = get_or-set_other r y l 0 0 (λ e. omega arith)

-- the cheapest of a free hour and of two rows, one of which lacks the deal's own hours, and the other those with nobody
module _ (unused : ℕ) (tariff free earned share : List ℕ) (k y : ℕ) (few : k ≤ 16) (s r : Option ℕ) (es : s ≡ count_in unused 0 None)
    (by_tariff by_free : List ℕ) (er : r ≡ cheapest_of s (lines by_tariff by_free) (lines earned share) k) where
  beside_tariff : (e : Deal) (l : ℕ) → l < k → lines (set tariff y 0) (set free 16 0) e l ≡ besides Tariff y (lines tariff free) e l
  beside_tariff Tariff l h = zero-at tariff y l
  beside_tariff Free l h = before_zero free 16 l (omega arith)

  beside_free : (e : Deal) (l : ℕ) → l < k → lines (set tariff 16 0) (set free y 0) e l ≡ besides Free y (lines tariff free) e l
  beside_free Tariff l h = before_zero tariff 16 l (omega arith)
  beside_free Free l h = zero-at free y l

  pub spare_tariff : by_tariff ≡ set tariff y 0 → by_free ≡ set free 16 0 →
      r ≡ cheapest_spare unused 0 (lines tariff free) (lines earned share) k Tariff y
  spare_tariff et ef = er ∙ rw (es, et, ef) (cheapest_same _ _ _ _ _ k beside_tariff (λ e l _. refl))

  pub spare_free : by_tariff ≡ set tariff 16 0 → by_free ≡ set free y 0 →
      r ≡ cheapest_spare unused 0 (lines tariff free) (lines earned share) k Free y
  spare_free et ef = er ∙ rw (es, et, ef) (cheapest_same _ _ _ _ _ k beside_free (λ e l _. refl))
