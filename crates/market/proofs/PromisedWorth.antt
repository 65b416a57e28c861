-- The worth that is given with a sound settlement: where there are no tariff deals it is the greatest, and else 0.
-- Assumes nothing.
use Prim.Native.Nat.{ℕ, ◌≤◌, ◌<◌}
use mathlib.Core.Path.{◌≡◌, refl, sym, ap, ap₂, ◌∙◌}
use mathlib.Core.Bool.{Bool, true, false, cond}
use mathlib.Core.Logic.{◌↔◌}
use native.Mathlib.Omega.{arith}
use lib.Dec.{ltb}
use borrow.Author.Tests.{lt-ltb, le-ltb}
use Rattle.grid.specs.Sum.{sum}
use Rattle.grid.proofs.Sums.{sum-zero, square_same, cell_le_square}
use Rattle.market.specs.Market.{Ticket, Settlement, DealHours, Feasible, Sound}
use Rattle.market.specs.Same.{SameTicket, SameSettlement}
use Rattle.market.specs.Totals.{NoTariffDeals, tariff_cap_total, total_worth, promised_worth}
use Rattle.market.proofs.Same.{worth-same}
use Rattle.market.proofs.BestTotal.{best_total}

at_most : (b : Bool) (w : ℕ) → cond b 0 w ≤ w
at_most true w = omega arith
at_most false w = omega arith

module _ (t : Ticket) where
  pub no_tariff_deals_iff : (tariff_cap_total t ≡ 0) ↔ NoTariffDeals t
  no_tariff_deals_iff = (
    λ e i j hi hj. omega (arith, cell_le_square t.tariff_cap t.growers t.pilots i j hi hj),
    λ none. square_same t.tariff_cap (λ i j. 0) t.growers t.pilots none ∙ zeros,
  )
    where
      zeros : sum (λ i. sum (λ j. 0) t.pilots) t.growers ≡ 0
      zeros = rw (sum-zero t.pilots) (sum-zero t.growers)

  pub promised_at_most : (h : DealHours) → promised_worth t h ≤ total_worth t h
  promised_at_most h = at_most (ltb 0 (tariff_cap_total t)) (total_worth t h)

  -- by a test of the caps
  pub promised_nothing : (h : DealHours) (some : Bool) → some ≡ ltb 0 (tariff_cap_total t) → some ≡ true → 0 ≡ promised_worth t h
  promised_nothing h some e holds = ap (λ (b : Bool). cond b 0 (total_worth t h)) (sym holds ∙ e)

  pub promised_total : (h : DealHours) (some : Bool) → some ≡ ltb 0 (tariff_cap_total t) → some ≡ false → total_worth t h ≡ promised_worth t h
  promised_total h some e fails = ap (λ (b : Bool). cond b 0 (total_worth t h)) (sym fails ∙ e)

  pub promised_without_tariff : NoTariffDeals t → (h : DealHours) → promised_worth t h ≡ total_worth t h
  promised_without_tariff none h =
      sym (promised_total h (ltb 0 (tariff_cap_total t)) refl (le-ltb 0 (tariff_cap_total t) (omega (arith, no_tariff_deals_iff.1 none))))

  pub promised_with_tariff : (i j : ℕ) → i < t.growers → j < t.pilots → 0 < t.tariff_cap i j → (h : DealHours) → promised_worth t h ≡ 0
  promised_with_tariff i j hi hj some h =
      sym (promised_nothing h (ltb 0 (tariff_cap_total t)) refl
      (lt-ltb 0 (tariff_cap_total t) (omega (arith, cell_le_square t.tariff_cap t.growers t.pilots i j hi hj))))

  module _ (none : NoTariffDeals t) (x : Settlement) (sound : Sound t x) where
    pub promised_best : (x' : Settlement) → Feasible t x' → total_worth t x'.hours ≤ promised_worth t x.hours
    promised_best x' f =
        omega (arith, promised_without_tariff none x.hours, best_total t none x sound x'.hours f.fits)

    -- Two sound settlements are worth the same.
    pub same-worth : (x' : Settlement) → Sound t x' → total_worth t x'.hours ≡ total_worth t x.hours
    same-worth x' sound' = omega (
      arith,
      best_total t none x sound x'.hours sound'.feasible.fits,
      best_total t none x' sound' x.hours sound.feasible.fits,
    )

-- It depends only on the growers and pilots that there are.
pub promised_same : {t t' : Ticket} {x x' : Settlement} → SameTicket t t' → SameSettlement t x x' →
    promised_worth t' x'.hours ≡ promised_worth t x.hours
promised_same {t} {t'} ticket settlement =
    ap₂ (λ (caps worth : ℕ). cond (ltb 0 caps) 0 worth) caps (worth-same ticket settlement)
  where
    caps : tariff_cap_total t' ≡ tariff_cap_total t
    caps = rw (ticket.growers, ticket.pilots) (square_same _ _ t.growers t.pilots ticket.tariff_cap)
