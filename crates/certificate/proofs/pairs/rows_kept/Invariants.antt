-- `certificate::pairs::rows_kept` meets its contract: the pairs of the growers so far are all kept, or not.
use Prim.Native.Nat.{◌-◌, ◌≤◌}
use mathlib.Core.Path.{◌≡◌}
use Rattle.certificate.specs.Rows.{rows_kept}
use Rattle.certificate.proofs.pairs.rows_kept.Given as goal

abbrev pub invariant-loop-i : goal.invariant-loop-i
invariant-loop-i l = (l.i ≤ l.n) × (l.kept ≡ rows_kept l.free l.standby l.least l.pilots_free l.pilots_standby l.pilots_least l.m l.tariff_cap l.tariff_gain l.tariff_pay
    l.free_cap l.joint_gain l.tariff_hours l.free_deal_hours l.pay l.i)
