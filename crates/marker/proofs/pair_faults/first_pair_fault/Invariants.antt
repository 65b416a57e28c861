-- `marker::first_pair_fault` meets its contract: no pair before this place is at fault; what is found is the first.
use Prim.Native.Nat.{◌+◌, ◌*◌, ◌-◌, ◌≤◌}
use mathlib.Core.List.{[]}
use Rattle.grid.specs.First.{NoneBefore}
use Rattle.market.specs.Tables.{ticket_in, settlement_in}
use Rattle.marker.specs.Verdict.{pair_fault_at}
use Rattle.marker.proofs.pair_faults.first_pair_fault.Given as goal

abbrev pub invariant-loop-j : goal.invariant-loop-j
invariant-loop-j l = (l.j ≤ l.sides.pilots) ×
    NoneBefore (pair_fault_at (ticket_in l.sides.growers l.sides.pilots [] [] l.tariff_cap [] [] l.free_cap l.joint_gain) (settlement_in l.tariff_hours l.free_deal_hours l.pay)) (l.i * l.sides.pilots + l.j)

abbrev pub invariant-loop-i : goal.invariant-loop-i
invariant-loop-i l = (l.i ≤ l.sides.growers) ×
    NoneBefore (pair_fault_at (ticket_in l.sides.growers l.sides.pilots [] [] l.tariff_cap [] [] l.free_cap l.joint_gain) (settlement_in l.tariff_hours l.free_deal_hours l.pay)) (l.i * l.sides.pilots)
