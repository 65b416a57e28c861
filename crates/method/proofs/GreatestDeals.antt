-- The search for the greatest of some numbers, two for each pilot.
-- Assumes nothing.
use Prim.Native.Nat.{ℕ, ◌+◌, ◌≤◌, ◌<◌, max}
use mathlib.Core.Bool.{cond}
use mathlib.Core.Path.{◌≡◌}
use mathlib.Core.Logic.{⊎_elim}
use lib.Dec.{ltb}
use native.Mathlib.Omega.{arith}
use borrow.Author.Tests.{lt-ltb, le-ltb}
use Rattle.std.specs.Prelude.{None, Some}
use Rattle.grid.proofs.Cases.{by_index, lt_or_le}
use Rattle.market.specs.declared.Deal.{Deal}
use Rattle.market.specs.declared.Deal.TheVariants.{Tariff, Free}
use Rattle.method.specs.Choice.{Greatest}

-- top is the greater number of pilot j, who is among the first k
pub record StandsAt (f : Deal → ℕ → ℕ) (k top j : ℕ) : Type 0 where
  pub pilot : j < k
  pub is : top ≡ max (f Tariff j) (f Free j)

-- top is the greatest of their numbers, and stands at pilot j unless they are all 0
pub record Peak (f : Deal → ℕ → ℕ) (k top j : ℕ) : Type 0 where
  pub all : (e : Deal) (l : ℕ) → l < k → f e l ≤ top
  pub some : 0 < top → StandsAt f k top j

pub peak_none : (f : Deal → ℕ → ℕ) (j : ℕ) → Peak f 0 0 j
peak_none f j = record { all = λ e l h. absurd (omega arith); some = λ h. absurd (omega arith) }

module _ (f : Deal → ℕ → ℕ) (k top j v : ℕ) (is : v ≡ max (f Tariff k) (f Free k)) where
  below : (e : Deal) (top' : ℕ) → v ≤ top' → f e k ≤ top'
  below Tariff top' h = omega arith
  below Free top' h = omega arith

  wider : (top' : ℕ) → top ≤ top' → v ≤ top' → Peak f k top j → (e : Deal) (l : ℕ) → l < k + 1 → f e l ≤ top'
  wider top' le new p e =
      by_index (λ l. l < k + 1 → f e l ≤ top') k (λ _. below e top' new) (λ l ne h. omega (arith, p.all e l (omega arith)))

  -- a turn of the search looks at the greater number v of pilot k
  pub peak_new : top < v → Peak f k top j → Peak f (k + 1) v k
  peak_new h p = record { all = wider v (omega arith) (omega arith) p; some = λ _. record { pilot = omega arith; is = is } }

  pub peak_old : v ≤ top → Peak f k top j → Peak f (k + 1) top j
  peak_old h p = record {
    all = wider top (omega arith) h p;
    some = λ x. record { pilot = omega (arith, (p.some x).pilot); is = (p.some x).is };
  }

-- the deal of the greater of two numbers
greater_is : (f : Deal → ℕ → ℕ) (j : ℕ) → f (cond (ltb (f Tariff j) (f Free j)) Free Tariff) j ≡ max (f Tariff j) (f Free j)
greater_is f j =
    ⊎_elim (λ h. rw (lt-ltb (f Tariff j) (f Free j) h) (omega arith)) (λ h. rw (le-ltb (f Tariff j) (f Free j) h) (omega arith))
    (lt_or_le (f Tariff j) (f Free j))

pub greatest_some : (f : Deal → ℕ → ℕ) (k l top j : ℕ) (d : Deal) → d ≡ cond (ltb (f Tariff j) (f Free j)) Free Tariff → l ≡ k → 0 < top →
    Peak f l top j → Greatest f k (Some (j, d))
greatest_some f k l top j d which e h p =
    let s = p.some h in
    let is : f d j ≡ top = rw which (omega (arith, greater_is f j, s.is)) in (
      omega (arith, s.pilot),
      omega (arith, is),
      λ x m hm. omega (arith, is, p.all x m (omega arith)),
    )

pub greatest_none : (f : Deal → ℕ → ℕ) (k l top j : ℕ) → l ≡ k → top ≤ 0 → Peak f l top j → Greatest f k None
greatest_none f k l top j e h p = λ x m hm. omega (arith, p.all x m (omega arith))
