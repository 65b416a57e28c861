-- `open_market_search::lists::last_two_calls` is safe and ends.
use Prim.Native.Nat.{◌-◌, ◌≤◌}
use Rattle.open_market_search.proofs.lists.last_two_calls.Given as goal

abbrev pub invariant-loop-k : goal.invariant-loop-k
invariant-loop-k l = l.k ≤ l.k-end
