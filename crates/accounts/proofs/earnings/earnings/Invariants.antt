-- `accounts::earnings::earnings` meets its contract: one party after another, each of his rows.
use Prim.Native.Nat.{◌-◌, ◌≤◌}
use mathlib.Core.Path.{◌≡◌}
use Rattle.grid.proofs.Sixteens.{Made}
use Rattle.accounts.specs.Earnings.{earned_at}
use Rattle.accounts.proofs.earnings.earnings.Given as goal

abbrev pub invariant-loop-p : goal.invariant-loop-p
invariant-loop-p l = (l.p ≤ l.count) ×
    Made 0 (λ k amount. amount ≡ earned_at l.tariff_hours l.free_deal_hours l.tariff l.whole l.given l.partners k) l.p l.all
