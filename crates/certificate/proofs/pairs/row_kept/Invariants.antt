-- `certificate::pairs::row_kept` meets its contract: the pairs so far are all kept, or not.
use Prim.Native.Nat.{◌-◌, ◌≤◌}
use mathlib.Core.Path.{◌≡◌}
use Rattle.certificate.specs.Rows.{row_kept}
use Rattle.certificate.proofs.pairs.row_kept.Given as goal

abbrev pub invariant-loop-j : goal.invariant-loop-j
invariant-loop-j l = (l.j ≤ l.count) × (l.kept ≡ row_kept l.grower l.free l.standby l.least l.tariff_cap l.tariff_gain l.tariff_pay l.free_cap
    l.joint_gain l.tariff_hours l.free_deal_hours l.pay l.j)
