-- The laws of the cheapest spare.
-- Assumes nothing.
use Rattle.std.specs.Prelude.{Option}
use Prim.Native.Nat.{ℕ, zero, suc, ◌+◌, ◌<◌}
use mathlib.Core.Path.{◌≡◌, refl, ap}
use mathlib.Core.Bool.{cond, ◌&&◌}
use lib.Dec.{eqb}
use native.Mathlib.Numerals.{add-one}
use native.Mathlib.Omega.{arith}
use Rattle.market.specs.declared.Deal.{Deal}
use Rattle.market.specs.declared.Deal.TheVariants.{Tariff, Free}
use Rattle.verdicts.specs.Tests.{count_in, cheapest_of, same_deal, cheapest_spare}

-- what a loop starts with, and what its turn does
pub cheapest_none : (s : Option ℕ) (hours worth : Deal → ℕ → ℕ) → cheapest_of s hours worth 0 ≡ s
unfolding cheapest_of
cheapest_none s hours worth = refl

pub cheapest_more : (s : Option ℕ) (hours worth : Deal → ℕ → ℕ) (k : ℕ) →
    cheapest_of s hours worth (k + 1)
    ≡ count_in (hours Free k) (worth Free k) (count_in (hours Tariff k) (worth Tariff k) (cheapest_of s hours worth k))
unfolding cheapest_of
cheapest_more s hours worth k = rw (add-one k)

-- spares that are the same with every partner
pub cheapest_same : (s : Option ℕ) (hours worth hours' worth' : Deal → ℕ → ℕ) (k : ℕ) →
    ((d : Deal) (l : ℕ) → l < k → hours d l ≡ hours' d l) → ((d : Deal) (l : ℕ) → l < k → worth d l ≡ worth' d l) →
    cheapest_of s hours worth k ≡ cheapest_of s hours' worth' k
unfolding cheapest_of
cheapest_same s hours worth hours' worth' zero h w = refl
cheapest_same s hours worth hours' worth' (suc k) h w =
    rw (
      h Free k (omega arith),
      w Free k (omega arith),
      h Tariff k (omega arith),
      w Tariff k (omega arith),
      cheapest_same s hours worth hours' worth' k (λ d l x. h d l (omega arith)) (λ d l x. w d l (omega arith)),
    )

-- a turn of the loop: the tariff hours with partner k counted in, then the free-deal hours
pub cheapest_turn : (s a b c : Option ℕ) (hours worth : Deal → ℕ → ℕ) (k : ℕ) → a ≡ cheapest_of s hours worth k →
    b ≡ count_in (hours Tariff k) (worth Tariff k) a → c ≡ count_in (hours Free k) (worth Free k) b → c ≡ cheapest_of s hours worth (k + 1)
cheapest_turn s a b c hours worth k ea eb ec = rw (cheapest_more s hours worth k, ← ea, ← eb) ec

-- the cheapest spares of parties that are the same with every partner
pub spare_same : (free free' standby standby' k k' : ℕ) (hours worth hours' worth' : Deal → ℕ → ℕ) (d : Deal) (y : ℕ) → free' ≡ free →
    standby' ≡ standby → k' ≡ k → ((e : Deal) (l : ℕ) → l < k → hours' e l ≡ hours e l) →
    ((e : Deal) (l : ℕ) → l < k → worth' e l ≡ worth e l) →
    cheapest_spare free' standby' hours' worth' k' d y ≡ cheapest_spare free standby hours worth k d y
spare_same free free' standby standby' k k' hours worth hours' worth' d y ef es ek h w =
    rw (ef, es, ek) (cheapest_same _ _ _ _ _ k (λ e l x. ap (λ (u : ℕ). cond (same_deal e d && eqb l y) 0 u) (h e l x)) w)
