-- `accounts::earnings::earned` meets its contract: partner by partner, each product below 2^32.
use Prim.Native.Nat.{◌*◌, ◌-◌, ◌≤◌}
use mathlib.Core.Path.{◌≡◌}
use Rattle.accounts.specs.Earnings.{earned_in}
use Rattle.accounts.proofs.earnings.earned.Given as goal

abbrev pub invariant-loop-l : goal.invariant-loop-l
invariant-loop-l l = (l.l ≤ l.partners) × (l.total ≤ 8589934592 * l.l) ×
    (l.total ≡ earned_in l.tariff_hours l.free_deal_hours l.tariff l.whole l.given l.l)
