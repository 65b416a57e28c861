-- `totals::has_tariff_deal` meets its contract: the caps that were passed by are 0, and one above 0 makes the sum so.
use Prim.Native.Nat.{◌-◌, ◌≤◌}
use mathlib.Core.Path.{◌≡◌}
use Rattle.grid.specs.Grid.{at}
use Rattle.grid.specs.Sum.{sum, sum_square}
use Rattle.totals.proofs.has_tariff_deal.Given as goal

abbrev pub invariant-loop-j : goal.invariant-loop-j
invariant-loop-j l = (l.j ≤ l.columns) × (sum_square (at l.tariff_cap) l.i l.columns ≡ 0) ×
    (sum (at l.tariff_cap l.i) l.j ≡ 0)

abbrev pub invariant-loop-i : goal.invariant-loop-i
invariant-loop-i l = (l.i ≤ l.rows) × (sum_square (at l.tariff_cap) l.i l.columns ≡ 0)
