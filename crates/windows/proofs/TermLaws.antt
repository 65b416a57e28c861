-- What is left of a pair's five numbers is within the limits of a ticket.
-- Assumes nothing.
use Prim.Native.Nat.{ℕ, ◌-◌, ◌≤◌, min}
use mathlib.Core.Bool.{Bool, true, false}
use mathlib.Core.Logic.{⊎_elim}
use mathlib.Core.Path.{◌≡◌}
use native.Mathlib.Omega.{arith}
use borrow.Author.Tests.{eq-eqb, ne_eqb}
use lib.Dec.{eqb}
use Rattle.grid.specs.Pick.{pick}
use Rattle.grid.proofs.Cases.{eq_or_ne}
use Rattle.documents.proofs.PairLaws.{Deal}
use Rattle.offers.specs.declared.Terms.{Terms}
use Rattle.pair_caps.specs.PairCaps.{amount_with, with_caps, narrowed_terms}

-- The five numbers are those of a deal.
abbrev pub IsDeal : Terms → Type 0
IsDeal t = Deal t.tariff_cap t.tariff_gain t.tariff_pay t.free_cap t.joint_gain

-- An amount stays as it was, or is cleared with its cap.
amount_at_most : (cap amount : ℕ) → amount_with cap amount ≤ amount
amount_at_most cap amount = go (eqb cap 0)
  where
    go : (t : Bool) → pick t 0 amount ≤ amount
    go true = omega arith
    go false = omega arith

pub amount_none : (cap amount : ℕ) → cap ≡ 0 → amount_with cap amount ≡ 0
amount_none cap amount e = rw e

pub amount_kept : (cap amount : ℕ) → (cap ≡ 0 → amount ≡ 0) → amount_with cap amount ≡ amount
amount_kept cap amount f =
    ⊎_elim (λ e. rw (eq-eqb cap 0 e, f e)) (λ e. rw (ne_eqb cap 0 e)) (eq_or_ne cap 0)

-- Caps that are lower than those of a deal make a deal.
caps_deal : (tariff free : ℕ) (t : Terms) → tariff ≤ t.tariff_cap → free ≤ t.free_cap → IsDeal t → IsDeal (with_caps tariff free t)
caps_deal tariff free t a b d = record {
  tariff_capped = omega (arith, d.tariff_capped);
  gain_capped = omega (arith, d.gain_capped, amount_at_most tariff t.tariff_gain);
  pay_capped = omega (arith, d.pay_capped, amount_at_most tariff t.tariff_pay);
  free_capped = omega (arith, d.free_capped);
  free_gain_capped = omega (arith, d.free_gain_capped, amount_at_most free t.joint_gain);
  no_tariff = λ e. (amount_none tariff t.tariff_gain e, amount_none tariff t.tariff_pay e);
  no_free = λ e. amount_none free t.joint_gain e;
}

pub narrowed_deal : (common : ℕ) (t : Terms) → IsDeal t → IsDeal (narrowed_terms common t)
narrowed_deal common t d =
    caps_deal (min t.tariff_cap common) (min t.free_cap (common - min t.tariff_cap common)) t
    (omega arith) (omega arith) d
