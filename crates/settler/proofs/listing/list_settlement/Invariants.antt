-- `settler::listing::list_settlement` meets its contract.
use Prim.Native.Nat.{◌-◌, ◌≤◌}
use Rattle.settler.proofs.ListLaws.{ListedTo}
use Rattle.settler.proofs.listing.list_settlement.Given as goal

abbrev pub invariant-loop-k : goal.invariant-loop-k
invariant-loop-k l = (l.k ≤ l.pairs) × ListedTo l.growers l.pilots l.tariff_hours
    l.free_deal_hours l.pay l.k l.list
