-- `open_market_search::paper::pair_told` is safe and ends.
use Prim.Native.Nat.{◌-◌, ◌≤◌}
use Rattle.open_market_search.proofs.paper.pair_told.Given as goal

abbrev pub invariant-loop-k : goal.invariant-loop-k
invariant-loop-k l = l.k ≤ 5
