-- What everybody has of a feasible settlement is together what its hours are worth.
-- Assumes nothing.
use Prim.Native.Nat.{ℕ, ◌+◌, ◌*◌, ◌-◌, ◌≤◌}
use mathlib.Core.Path.{◌≡◌, ap, sym, ◌∙◌}
use native.Mathlib.Omega.{arith}
use Rattle.grid.specs.Sum.{sum}
use Rattle.grid.proofs.Sums.{sum_swap, square_same, square_add}
use Rattle.market.specs.declared.Deal.TheVariants.{Free}
use Rattle.market.specs.Market.{Ticket, Settlement, Feasible}
use Rattle.market.specs.Accounts.{grower_gain, pilot_pay, worth_of_hours}

-- what is not the pilot's pay of a joint gain is the grower's
split : (hours gain pay : ℕ) → pay ≤ gain → hours * (gain - pay) + hours * pay ≡ hours * gain
split hours gain pay le = let e : (gain - pay) + pay ≡ gain = omega arith in omega (arith, ap (λ z. hours * z) e)

-- The pays are summed grower by grower, as the gains are; then each pair has what its hours are worth.
pub account_total : (t : Ticket) (x : Settlement) → Feasible t x →
    sum (grower_gain t x) t.growers + sum (pilot_pay t x) t.pilots ≡ worth_of_hours t x.hours
account_total t x feasible =
    ap (λ (pays : ℕ). sum (grower_gain t x) t.growers + pays) (sum_swap _ t.pilots t.growers)
    ∙ sym (square_add _ _ t.growers t.pilots)
    ∙ square_same _ _ t.growers t.pilots
    (λ i j hi hj. omega (arith, split (x.hours Free i j) (t.joint_gain i j) (x.pay i j) (feasible.pay_in_gain i j hi hj)))
