-- The laws of the least that an hour earns a party.
-- Assumes nothing.
use Prim.Native.Nat.{ℕ, zero, suc, ◌+◌, ◌≤◌, ◌<◌, min}
use mathlib.Core.Path.{◌≡◌, refl}
use mathlib.Core.Logic.{⊎_elim}
use native.Mathlib.Numerals.{add-one}
use native.Mathlib.Omega.{arith}
use borrow.Author.Tests.{lt-ltb, le-ltb}
use Rattle.grid.proofs.Cases.{lt_or_le, eq_or_ne}
use Rattle.grid.proofs.Sums.{sum_same}
use Rattle.certificate.specs.declared.Party.{Party}
use Rattle.certificate.specs.Certified.{worth_of, least_earned, least_of, party_of}

module _ (tariff earned free share : ℕ → ℕ) where
  abbrev least : ℕ → ℕ
  least = least_earned tariff earned free share

  -- what a loop starts with, and what its turn does
  pub least_none : least 0 ≡ 65535
  unfolding least_earned
  least_none = refl

  pub least_turn : (k a b c : ℕ) → a ≡ least k → b ≡ worth_of (tariff k) (earned k) → c ≡ worth_of (free k) (share k) →
      min a (min b c) ≡ least (k + 1)
  unfolding least_earned
  least_turn k a b c ea eb ec = rw (add-one k, ea, eb, ec)

  -- no hour with a partner earns less
  pub least_tariff : (k l : ℕ) → l < k → 0 < tariff l → least k ≤ earned l
  unfolding least_earned
  least_tariff zero l h some = absurd (omega arith)
  least_tariff (suc k) l h some = ⊎_elim
      (λ same. rw (same, lt-ltb 0 (tariff k) (rw (← same) some)) (omega arith))
      (λ other. omega (arith, least_tariff k l (omega arith) some)) (eq_or_ne l k)

  pub least_free : (k l : ℕ) → l < k → 0 < free l → least k ≤ share l
  unfolding least_earned
  least_free zero l h some = absurd (omega arith)
  least_free (suc k) l h some = ⊎_elim
      (λ same. rw (same, lt-ltb 0 (free k) (rw (← same) some)) (omega arith))
      (λ other. omega (arith, least_free k l (omega arith) some)) (eq_or_ne l k)

pub least_same : (tariff earned free share tariff' earned' free' share' : ℕ → ℕ) (k : ℕ) → ((l : ℕ) → l < k →
    (tariff l ≡ tariff' l) × (earned l ≡ earned' l) × (free l ≡ free' l) × (share l ≡ share' l)) →
    least_earned tariff earned free share k ≡ least_earned tariff' earned' free' share' k
unfolding least_earned
least_same tariff earned free share tariff' earned' free' share' zero e = refl
least_same tariff earned free share tariff' earned' free' share' (suc k) e =
    let here = e k (omega arith) in
    rw (
      here.0,
      here.1,
      here.2,
      here.3,
      least_same tariff earned free share tariff' earned' free' share' k (λ l h. e l (omega arith)),
    )

-- no hour of a party is worth less than his least: a free hour, and hours of deals that earn at least standby
least_hour : (unused standby earned worth : ℕ) → standby ≤ worth → earned ≤ worth → least_of unused standby earned ≤ worth
least_hour unused standby earned worth s e = ⊎_elim
    (λ h. rw (lt-ltb 0 unused h) s)
    (λ h. rw (le-ltb 0 unused h) e)
    (lt_or_le 0 unused)

module _ (own standby : ℕ) (tariff earned free share : ℕ → ℕ) (k : ℕ) where
  abbrev party : Party
  party = party_of own standby tariff earned free share k

  pub party_free_hour : 0 < party.free → party.least ≤ standby
  party_free_hour h = rw (lt-ltb 0 party.free h) (omega arith)

  pub party_tariff : (l : ℕ) → l < k → 0 < tariff l → standby ≤ earned l → party.least ≤ earned l
  party_tariff l h some s = least_hour party.free standby _ (earned l) s (least_tariff tariff earned free share k l h some)

  pub party_free : (l : ℕ) → l < k → 0 < free l → standby ≤ share l → party.least ≤ share l
  party_free l h some s = least_hour party.free standby _ (share l) s (least_free tariff earned free share k l h some)

-- the same numbers make the same party
pub party_same : (own standby standby' : ℕ) (tariff earned free share tariff' earned' free' share' : ℕ → ℕ) (k : ℕ) →
    standby ≡ standby' → ((l : ℕ) → l < k →
    (tariff l ≡ tariff' l) × (earned l ≡ earned' l) × (free l ≡ free' l) × (share l ≡ share' l)) →
    party_of own standby tariff earned free share k ≡ party_of own standby' tariff' earned' free' share' k
party_same own standby standby' tariff earned free share tariff' earned' free' share' k es e =
    rw (
      es,
      sum_same (λ l. tariff l + free l) (λ l. tariff' l + free' l) k (λ l h. omega (arith, (e l h).0, (e l h).2)),
      least_same tariff earned free share tariff' earned' free' share' k e,
    )
