-- `sheets::pairs::pair_lines` meets its contract: after p turns the lines of the first p pairs stand in the page.
use Prim.Native.Nat.{◌-◌, ◌≤◌}
use Rattle.ascii.specs.Writing.{Wrote}
use Rattle.sheets.specs.Sheet.{pair_lines}
use Rattle.sheets.specs.Squares.{line_in}
use Rattle.sheets.proofs.pairs.pair_lines.Given as goal

abbrev pub invariant-loop-p : goal.invariant-loop-p
invariant-loop-p l = (l.p ≤ l.end) × Wrote l.initial.page l.page l.at l.here (pair_lines (line_in l.tariff_hours l.tariff_gain l.tariff_pay l.free_deal_hours l.joint_gain l.pay) l.pilots l.p)
