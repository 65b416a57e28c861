-- The cheapest spare is the cheapest of the numbers that a free hour and the hours of other deals are worth.
-- Assumes nothing.
use Rattle.std.specs.Prelude.{None, Option, Some}
use Prim.Native.Nat.{ℕ, zero, suc, ◌+◌, min, ◌<◌}
use mathlib.Core.Path.{◌≡◌, refl, sym}
use mathlib.Core.Bool.{true, cond, false≢true}
use mathlib.Core.Logic.{◌⊎◌, ◌↔◌, inl, inr, ⊎_elim}
use native.Mathlib.Omega.{arith}
use lib.Dec.{eqb}
use borrow.Author.Tests.{ltb-true, lt-ltb, le-ltb, eq-eqb, ne_eqb}
use Rattle.grid.proofs.Cases.{eq_or_ne, lt_or_le}
use Rattle.market.specs.declared.Deal.{Deal}
use Rattle.market.specs.declared.Deal.TheVariants.{Tariff, Free}
use Rattle.market.specs.Market.{Cheapest}
use Rattle.verdicts.specs.Tests.{count_in, cheapest_of, besides, cheapest_spare, below, both_below}

-- s is the cheapest of the numbers with a property, or there is none
abbrev pub CheapestIs : (ℕ → Type 0) → Option ℕ → Type 0
CheapestIs P None = (w : ℕ) → ¬ P w
CheapestIs P (Some w) = Cheapest P w

-- the same for a property that comes to the same
alike : (P Q : ℕ → Type 0) → ((w : ℕ) → P w → Q w) → ((w : ℕ) → Q w → P w) → (s : Option ℕ) → CheapestIs P s → CheapestIs Q s
alike P Q to from None none = λ w q. none w (from w q)
alike P Q to from (Some w) least = (to w least.0, λ v q. least.1 v (from v q))

-- the property, or to be worth w while there are hours
abbrev Or : (ℕ → Type 0) → ℕ → ℕ → ℕ → Type 0
Or P hours w v = P v ⊎ ((0 < hours) × (v ≡ w))

more : (P : ℕ → Type 0) (hours w : ℕ) → 0 < hours → (s : Option ℕ) → CheapestIs P s → CheapestIs (Or P hours w) (count_in hours w s)
more P hours w h None none =
    rw (lt-ltb 0 hours h) (inr (h, refl), λ v q. ⊎_elim (λ p. absurd (none v p)) (λ e. omega (arith, e.1)) q)
more P hours w h (Some u) least =
    rw (lt-ltb 0 hours h) (
      ⊎_elim
          (λ l. let e : min u w ≡ w = omega arith in rw e (inr (h, refl)))
          (λ l. let e : min u w ≡ u = omega arith in rw e (inl least.0))
          (lt_or_le w u),
      λ v q. ⊎_elim (λ p. omega (arith, least.1 v p)) (λ e. omega (arith, e.1)) q,
    )

count_in_lem : (P : ℕ → Type 0) (hours w : ℕ) (s : Option ℕ) → CheapestIs P s → CheapestIs (Or P hours w) (count_in hours w s)
count_in_lem P hours w s is = ⊎_elim
    (λ h. more P hours w h s is)
    (λ h. rw (le-ltb 0 hours h) (alike P (Or P hours w) (λ v p. inl p) (λ v q. ⊎_elim (λ p. p) (λ e. absurd (omega (arith, e.0))) q) s is))
    (lt_or_le 0 hours)

-- the property, or to be worth an hour of a deal with one of k partners
abbrev Among : (ℕ → Type 0) → (Deal → ℕ → ℕ) → (Deal → ℕ → ℕ) → ℕ → ℕ → Type 0
Among P hours worth k v = P v ⊎ ((e : Deal) × (l : ℕ) × (l < k) × (0 < hours e l) × (v ≡ worth e l))

cheapest_among : (P : ℕ → Type 0) (hours worth : Deal → ℕ → ℕ) (k : ℕ) (s : Option ℕ) → CheapestIs P s →
    CheapestIs (Among P hours worth k) (cheapest_of s hours worth k)
unfolding cheapest_of
cheapest_among P hours worth zero s is =
    alike P (Among P hours worth 0) (λ v p. inl p) (λ v q. ⊎_elim (λ p. p) (λ z. absurd (omega (arith, z.2))) q) s is
cheapest_among P hours worth (suc k) s is =
    let before = cheapest_of s hours worth k in
    let tariff = count_in (hours Tariff k) (worth Tariff k) before in
    alike (Or (Or (Among P hours worth k) (hours Tariff k) (worth Tariff k)) (hours Free k) (worth Free k)) (Among P hours worth (suc k))
    to from (count_in (hours Free k) (worth Free k) tariff)
    (count_in_lem (Or (Among P hours worth k) (hours Tariff k) (worth Tariff k)) (hours Free k) (worth Free k) tariff
    (count_in_lem (Among P hours worth k) (hours Tariff k) (worth Tariff k) before (cheapest_among P hours worth k s is)))
  where
    to : (v : ℕ) → Or (Or (Among P hours worth k) (hours Tariff k) (worth Tariff k)) (hours Free k) (worth Free k) v →
        Among P hours worth (suc k) v
    to v (inl (inl (inl p))) = inl p
    to v (inl (inl (inr z))) = inr (z.0, z.1, omega (arith, z.2), z.3, z.4)
    to v (inl (inr z)) = inr (Tariff, k, omega arith, z.0, z.1)
    to v (inr z) = inr (Free, k, omega arith, z.0, z.1)

    last : (v : ℕ) (e : Deal) (l : ℕ) → l ≡ k → 0 < hours e l → v ≡ worth e l →
        Or (Or (Among P hours worth k) (hours Tariff k) (worth Tariff k)) (hours Free k) (worth Free k) v
    last v Tariff l h some same = inl (inr (rw h at some, rw h at same))
    last v Free l h some same = inr (rw h at some, rw h at same)

    from : (v : ℕ) → Among P hours worth (suc k) v → Or (Or (Among P hours worth k) (hours Tariff k) (worth Tariff k)) (hours Free k)
        (worth Free k) v
    from v (inl p) = inl (inl (inl p))
    from v (inr (e, l, hl, some, same)) =
        ⊎_elim (λ h. last v e l h some same) (λ n. inl (inl (inr (e, l, omega arith, some, same)))) (eq_or_ne l k)

-- hours besides the deal's own: those of any other deal
tariff_not_free : Tariff ≡ Free → ⊥
tariff_not_free p = let z : ◌≡◌ {A = ℕ} 0 1 = cc in omega arith

same_deal_some : (l y h : ℕ) → 0 < cond (eqb l y) 0 h → (0 < h) × (l ≡ y → ⊥)
same_deal_some l y h some =
    ⊎_elim (λ e. let z : 0 < 0 = rw (eq-eqb l y e) at some in absurd (omega arith)) (λ n. (rw (ne_eqb l y n) at some, n)) (eq_or_ne l y)

same_deal_other : (l y h : ℕ) → 0 < h → (l ≡ y → ⊥) → 0 < cond (eqb l y) 0 h
same_deal_other l y h some n = rw (ne_eqb l y n) some

besides_some : (d e : Deal) (y l : ℕ) (hours : Deal → ℕ → ℕ) → 0 < besides d y hours e l → (0 < hours e l) × (e ≡ d → l ≡ y → ⊥)
besides_some Tariff Tariff y l hours h = let z = same_deal_some l y (hours Tariff l) h in (z.0, λ _. z.1)
besides_some Tariff Free y l hours h = (h, λ p _. tariff_not_free (sym p))
besides_some Free Tariff y l hours h = (h, λ p _. tariff_not_free p)
besides_some Free Free y l hours h = let z = same_deal_some l y (hours Free l) h in (z.0, λ _. z.1)

besides_other : (d e : Deal) (y l : ℕ) (hours : Deal → ℕ → ℕ) → 0 < hours e l → (e ≡ d → l ≡ y → ⊥) → 0 < besides d y hours e l
besides_other Tariff Tariff y l hours h n = same_deal_other l y (hours Tariff l) h (n refl)
besides_other Tariff Free y l hours h n = h
besides_other Free Tariff y l hours h n = h
besides_other Free Free y l hours h n = same_deal_other l y (hours Free l) h (n refl)

-- A party by its numbers: its free hours and what each is worth, its hours and what they earn by deal and partner, and k partners.
-- The spares are those for the deal d with the partner y.
module _ (free standby : ℕ) (hours worth : Deal → ℕ → ℕ) (k : ℕ) (d : Deal) (y : ℕ) where
  -- w is what an hour of another deal is worth
  abbrev OtherDeal : ℕ → Type 0
  OtherDeal w = (e : Deal) × (l : ℕ) × (l < k) × (e ≡ d → l ≡ y → ⊥) × (0 < hours e l) × (w ≡ worth e l)

  -- S holds of what spares are worth: a free hour, and an hour of another deal; and of nothing else
  pub record AreSpares (S : ℕ → Type 0) : Type 0 where
    pub free_hour_lem : 0 < free → S standby
    pub other_deal_lem : (e : Deal) (l : ℕ) → l < k → (e ≡ d → l ≡ y → ⊥) → 0 < hours e l → S (worth e l)
    pub only : (w : ℕ) → S w → ((0 < free) × (w ≡ standby)) ⊎ OtherDeal w

  -- a free hour, or an hour besides the deal's own
  abbrev Counted : ℕ → Type 0
  Counted = Among (Or (λ w. ⊥) free standby) (besides d y hours) worth k

  pub cheapest_of_lem : (S : ℕ → Type 0) → AreSpares S → CheapestIs S (cheapest_spare free standby hours worth k d y)
  cheapest_of_lem S are =
      alike Counted S to from (cheapest_spare free standby hours worth k d y)
      (cheapest_among (Or (λ w. ⊥) free standby) (besides d y hours) worth k (count_in free standby None)
      (count_in_lem (λ w. ⊥) free standby None (λ w z. z)))
    where
      to : (w : ℕ) → Counted w → S w
      to w (inl (inl z)) = absurd z
      to w (inl (inr (some, e))) = rw e (are.free_hour_lem some)
      to w (inr (e, l, hl, some, same)) =
          let z = besides_some d e y l hours some in rw same (are.other_deal_lem e l hl z.1 z.0)

      from : (w : ℕ) → S w → Counted w
      from w s = ⊎_elim
          (λ h. inl (inr h))
          (λ o. inr (o.0, o.1, o.2, besides_other d o.0 y o.1 hours o.4 o.3, o.5))
          (are.only w s)

-- what the tests of spares say
pub below_iff : (P : ℕ → Type 0) (s : Option ℕ) → CheapestIs P s → (v : ℕ) → (below s v ≡ true) ↔ ((w : ℕ) × P w × (w < v))
below_iff P None is v = (λ h. absurd (false≢true h), λ z. absurd (is z.0 z.1))
below_iff P (Some w) is v = (λ h. (w, is.0, ltb-true w v h), λ z. lt-ltb w v (omega (arith, is.1 z.0 z.1, z.2)))

pub both-below_iff : (P Q : ℕ → Type 0) (s r : Option ℕ) → CheapestIs P s → CheapestIs Q r → (v : ℕ) →
    (both_below s r v ≡ true) ↔ ((w : ℕ) × (u : ℕ) × Cheapest P w × Cheapest Q u × (w + u < v))
both-below_iff P Q None r is its v = (λ h. absurd (false≢true h), λ z. absurd (is z.0 z.2.0))
both-below_iff P Q (Some w) None is its v = (λ h. absurd (false≢true h), λ z. absurd (its z.1 z.3.0))
both-below_iff P Q (Some w) (Some u) is its v = (
  λ h. (w, u, is, its, ltb-true (w + u) v h),
  λ z. lt-ltb (w + u) v (omega (arith, is.1 z.0 z.2.0, its.1 z.1 z.3.0, z.4)),
)
