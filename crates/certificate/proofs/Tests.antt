-- What the test of a pair says if it holds.
-- Assumes nothing.
use Prim.Native.Nat.{ℕ, ◌+◌, ◌-◌, ◌≤◌, ◌<◌}
use mathlib.Core.Path.{◌≡◌, refl}
use mathlib.Core.Bool.{Bool, true, false, not, ◌&&◌, ◌||◌}
use mathlib.Core.Logic.{◌⊎◌, inl, inr, ⊎_elim}
use native.Mathlib.Omega.{arith}
use lib.Dec.{leb, ltb, eqb}
use borrow.Author.Tests.{leb-true, ltb-true, eqb-true, le-leb, lt-leb}
use Rattle.grid.proofs.Cases.{never, lt_or_le}
use Rattle.certificate.specs.declared.Party.{Party}
use Rattle.certificate.specs.Certified.{feasible, worthwhile, one_full, tariff_kept, free_kept, pair_kept}
use Rattle.grid.proofs.EveryLaws.{both_hold}

either : (a b : Bool) → (a || b) ≡ true → (a ≡ true) ⊎ (b ≡ true)
either true b e = inl refl
either false b e = inr e

-- one of the two has no free hour
full_true : (g p : Party) → one_full g p ≡ true → 0 < g.free → 0 < p.free → ⊥
full_true g p e hg hp = ⊎_elim
    (λ q. omega (arith, eqb-true g.free 0 q))
    (λ q. omega (arith, eqb-true p.free 0 q))
    (either (eqb g.free 0) (eqb p.free 0) e)

not-true : (a b : ℕ) → not (leb a b) ≡ true → b < a
not-true a b e = ⊎_elim (λ low. low) (λ high. let f : not true ≡ true = rw (le-leb a b high) at e in never cc) (lt_or_le b a)

-- a deal that is not at its cap passes the rest of its test, and so does one that has hours where the test is of those
unfilled : (cap hours : ℕ) (rest : Bool) → (leb cap hours || rest) ≡ true → hours < cap → rest ≡ true
unfilled cap hours rest e h = ⊎_elim (λ q. absurd (omega (arith, leb-true cap hours q))) (λ q. q) (either (leb cap hours) rest e)

flown : (hours : ℕ) (rest : Bool) → (eqb hours 0 || rest) ≡ true → 0 < hours → rest ≡ true
flown hours rest e h = ⊎_elim (λ q. absurd (omega (arith, eqb-true hours 0 q))) (λ q. q) (either (eqb hours 0) rest e)

-- what is known of a pair that is kept
pub record Kept (g p : Party) (tariff_cap tariff_gain tariff_pay free_cap joint_gain tariff_hours free_deal_hours pay : ℕ) : Type 0 where
  pub tariff_within : tariff_hours ≤ tariff_cap
  pub free_within : free_deal_hours ≤ free_cap
  pub pay_in_gain : pay ≤ joint_gain
  pub pay_nothing : free_deal_hours ≡ 0 → pay ≡ 0
  pub tariff_earns : 0 < tariff_hours → (g.standby ≤ tariff_gain) × (p.standby ≤ tariff_pay)
  pub free_earns : 0 < free_deal_hours → (g.standby ≤ joint_gain - pay) × (p.standby ≤ pay)
  pub tariff_idle : tariff_hours < tariff_cap → 0 < g.free → 0 < p.free → g.standby ≤ tariff_gain → p.standby ≤ tariff_pay → ⊥
  pub free_idle : free_deal_hours < free_cap → 0 < g.free → 0 < p.free → g.standby + p.standby ≤ joint_gain → ⊥
  pub tariff : tariff_hours < tariff_cap → (tariff_gain ≤ g.least) ⊎ (tariff_pay ≤ p.least)
  pub free : free_deal_hours < free_cap → joint_gain ≤ g.least + p.least

module _ (g p : Party) (tariff_cap tariff_gain tariff_pay free_cap joint_gain tariff_hours free_deal_hours pay : ℕ) where
  abbrev by_tariff_lem : Bool
  by_tariff_lem = tariff_kept g p tariff_cap tariff_gain tariff_pay tariff_hours

  abbrev by_free_lem : Bool
  by_free_lem = free_kept g p free_cap joint_gain free_deal_hours

  abbrev possible : Bool
  possible = feasible tariff_cap free_cap joint_gain tariff_hours free_deal_hours pay

  abbrev earns : Bool
  earns = worthwhile g p tariff_gain tariff_pay joint_gain tariff_hours free_deal_hours pay

  possible_true : possible ≡ true → (tariff_hours ≤ tariff_cap) × (free_deal_hours ≤ free_cap) × (pay ≤ joint_gain) ×
      (free_deal_hours ≡ 0 → pay ≡ 0)
  possible_true e =
      let nothing = ltb 0 free_deal_hours || eqb pay 0 in
      let e₁ = both_hold (leb tariff_hours tariff_cap && leb free_deal_hours free_cap) (leb pay joint_gain && nothing) e in
      let caps = both_hold (leb tariff_hours tariff_cap) (leb free_deal_hours free_cap) e₁.0 in
      let pays = both_hold (leb pay joint_gain) nothing e₁.1 in (
        leb-true _ _ caps.0,
        leb-true _ _ caps.1,
        leb-true _ _ pays.0,
        λ none. ⊎_elim (λ q. absurd (omega (arith, ltb-true 0 free_deal_hours q))) (λ q. eqb-true pay 0 q)
            (either (ltb 0 free_deal_hours) (eqb pay 0) pays.1),
      )

  earns_true : earns ≡ true → (0 < tariff_hours → (g.standby ≤ tariff_gain) × (p.standby ≤ tariff_pay)) ×
      (0 < free_deal_hours → (g.standby ≤ joint_gain - pay) × (p.standby ≤ pay))
  earns_true e =
      let tariffs = leb g.standby tariff_gain && leb p.standby tariff_pay in
      let shares = leb g.standby (joint_gain - pay) && leb p.standby pay in
      let e₁ = both_hold (eqb tariff_hours 0 || tariffs) (eqb free_deal_hours 0 || shares) e in (
        λ h. let q = both_hold (leb g.standby tariff_gain) (leb p.standby tariff_pay) (flown tariff_hours tariffs e₁.0 h) in
            (leb-true _ _ q.0, leb-true _ _ q.1),
        λ h. let q = both_hold (leb g.standby (joint_gain - pay)) (leb p.standby pay) (flown free_deal_hours shares e₁.1 h) in
            (leb-true _ _ q.0, leb-true _ _ q.1),
      )

  -- an unfilled deal is not idle, and leaves nothing to gain
  tariff_true : by_tariff_lem ≡ true → tariff_hours < tariff_cap →
      ((one_full g p || (ltb tariff_gain g.standby || ltb tariff_pay p.standby)) ≡ true) ×
      ((leb tariff_gain g.least || leb tariff_pay p.least) ≡ true)
  tariff_true e h = both_hold (one_full g p || (ltb tariff_gain g.standby || ltb tariff_pay p.standby))
      (leb tariff_gain g.least || leb tariff_pay p.least) (unfilled tariff_cap tariff_hours _ e h)

  free-true : by_free_lem ≡ true → free_deal_hours < free_cap →
      ((one_full g p || not (leb (g.standby + p.standby) joint_gain)) ≡ true) × (leb joint_gain (g.least + p.least) ≡ true)
  free-true e h = both_hold (one_full g p || not (leb (g.standby + p.standby) joint_gain)) (leb joint_gain (g.least + p.least))
      (unfilled free_cap free_deal_hours _ e h)

  pub kept-true : pair_kept g p tariff_cap tariff_gain tariff_pay free_cap joint_gain tariff_hours free_deal_hours pay ≡ true →
      Kept g p tariff_cap tariff_gain tariff_pay free_cap joint_gain tariff_hours free_deal_hours pay
  kept-true e =
      let e₁ = both_hold (possible && earns && by_tariff_lem) by_free_lem e in
      let e₂ = both_hold (possible && earns) by_tariff_lem e₁.0 in
      let e₃ = both_hold possible earns e₂.0 in
      let possibles = possible_true e₃.0 in
      let earning = earns_true e₃.1 in
      let tariffs = tariff_true e₂.1 in
      let frees = free-true e₁.1 in
      record {
        tariff_within = possibles.0;
        free_within = possibles.1;
        pay_in_gain = possibles.2;
        pay_nothing = possibles.3;
        tariff_earns = earning.0;
        free_earns = earning.1;
        tariff_idle = λ h hg hp wg wp. ⊎_elim
            (λ q. full_true g p q hg hp)
            (λ q. ⊎_elim (λ u. omega (arith, ltb-true tariff_gain g.standby u)) (λ u. omega (arith, ltb-true tariff_pay p.standby u))
            (either (ltb tariff_gain g.standby) (ltb tariff_pay p.standby) q))
            (either (one_full g p) (ltb tariff_gain g.standby || ltb tariff_pay p.standby) (tariffs h).0);
        free_idle = λ h hg hp w. ⊎_elim
            (λ q. full_true g p q hg hp)
            (λ q. omega (arith, not-true (g.standby + p.standby) joint_gain q))
            (either (one_full g p) (not (leb (g.standby + p.standby) joint_gain)) (frees h).0);
        tariff = λ h. ⊎_elim (λ q. inl (leb-true _ _ q)) (λ q. inr (leb-true _ _ q))
            (either (leb tariff_gain g.least) (leb tariff_pay p.least) (tariffs h).1);
        free = λ h. leb-true _ _ (frees h).1;
      }

-- a sum on one side of a test is a difference on the other
pub at_least-both : (gain one other d : ℕ) → d ≡ gain - one → (leb one gain && leb other d) ≡ leb (one + other) gain
at_least-both gain one other d e = ⊎_elim
    (λ low. rw (lt-leb one gain low, lt-leb (one + other) gain (omega (arith, low))))
    (λ high. rw (le-leb one gain high) (⊎_elim
    (λ small. rw (lt-leb other d small, lt-leb (one + other) gain (omega (arith, small, e, high))))
    (λ large. rw (le-leb other d large, le-leb (one + other) gain (omega (arith, large, e, high))))
    (lt_or_le d other)))
    (lt_or_le gain one)

pub at_most_both : (gain one other d : ℕ) → d ≡ gain - one → leb d other ≡ leb gain (one + other)
at_most_both gain one other d e = ⊎_elim
    (λ large. rw (lt-leb d other large, lt-leb gain (one + other) (omega (arith, large, e))))
    (λ small. rw (le-leb d other small, le-leb gain (one + other) (omega (arith, small, e))))
    (lt_or_le other d)
