-- `open_market_search::paper::clear` is safe and ends.
use Prim.Native.Nat.{◌-◌, ◌≤◌}
use Rattle.open_market_search.proofs.paper.clear.Given as goal

abbrev pub invariant-loop-after : goal.invariant-loop-after
invariant-loop-after l = l.after ≤ 20
