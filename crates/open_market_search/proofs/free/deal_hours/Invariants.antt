-- `open_market_search::free::deal_hours` is safe and ends: four pairs at most have fewer than a million hours.
use Prim.Native.Nat.{◌*◌, ◌-◌, ◌≤◌}
use Rattle.open_market_search.proofs.free.deal_hours.Given as goal

abbrev pub invariant-loop-pair : goal.invariant-loop-pair
invariant-loop-pair l = (l.pair ≤ l.end) × (l.end ≤ 4) × (l.hours ≤ 131072 * l.pair)
