-- `marker::judge_deals` meets its contract: no deal before this place is at fault; the walk stops at the first that is.
use Prim.Native.Nat.{◌+◌, ◌*◌, ◌-◌, ◌≤◌}
use mathlib.Core.Path.{◌≡◌}
use Rattle.grid.specs.First.{NoneBefore}
use Rattle.verdicts.specs.declared.Verdict.TheVariants.{Sound}
use Rattle.marker.specs.Verdict.{deal_number, deal_fault_at}
use Rattle.marker.specs.Tables.{Origin, ticket_from, settlement_from}
use Rattle.marker.proofs.deal_faults.judge_deals.Given as goal

abbrev pub invariant-loop-fault : goal.invariant-loop-fault
invariant-loop-fault l = ((o : Origin l.sides.growers l.sides.pilots l.growers l.pilots l.tariff_cap l.free_cap l.joint_gain) →
    NoneBefore (deal_fault_at (ticket_from o) (settlement_from o)) (2 * (l.i * l.sides.pilots + l.j) + deal_number l.deal)) × (l.verdict ≡ Sound (2 * (l.sides.growers * l.sides.pilots)) l.worth)

abbrev pub decreases-loop-fault : goal.decreases-loop-fault
decreases-loop-fault l = 1 - deal_number l.deal

abbrev pub invariant-loop-j : goal.invariant-loop-j
invariant-loop-j l = (l.j ≤ l.sides.pilots) ×
    ((o : Origin l.sides.growers l.sides.pilots l.growers l.pilots l.tariff_cap l.free_cap l.joint_gain) →
    NoneBefore (deal_fault_at (ticket_from o) (settlement_from o)) (2 * (l.i * l.sides.pilots + l.j))) × (l.verdict ≡ Sound (2 * (l.sides.growers * l.sides.pilots)) l.worth)

abbrev pub decreases-loop-j : goal.decreases-loop-j
decreases-loop-j l = l.sides.pilots - l.j

abbrev pub invariant-search : goal.invariant-search
invariant-search l = (l.i ≤ l.sides.growers) ×
    ((o : Origin l.sides.growers l.sides.pilots l.growers l.pilots l.tariff_cap l.free_cap l.joint_gain) →
    NoneBefore (deal_fault_at (ticket_from o) (settlement_from o)) (2 * (l.i * l.sides.pilots))) × (l.verdict ≡ Sound (2 * (l.sides.growers * l.sides.pilots)) l.worth)

abbrev pub decreases-search : goal.decreases-search
decreases-search l = l.sides.growers - l.i
