-- `accounts::earnings::earned` meets its contract: partner by partner, each product below 2^32.
use Prim.Native.Nat.{ℕ, ◌*◌}
use mathlib.Core.Path.{ap, sym}
use native.Mathlib.Omega.{arith}
use lib.ListN.{get_or}
use Rattle.grid.proofs.Sums.{sum-none, sum_more}
use Rattle.accounts.specs.Earnings.{earned_with}
use Rattle.accounts.proofs.earnings.earned.Goals as goal

pub loop-l-init : goal.loop-l-init
loop-l-init c = (omega arith, omega arith, sym (sum-none _))

pub loop-l-preserved : goal.loop-l-preserved
loop-l-preserved c = let l = c.loop-l.l in
    omega (
      arith,
      sum_more (earned_with c.args.tariff_hours c.args.free_deal_hours c.args.tariff c.args.whole c.args.given) l,
      ap (λ (share : ℕ). get_or c.args.free_deal_hours l 0 * share) c.saturating_sub-share.ensures,
    )
