-- `open_market_search::held::same_row` is safe and ends.
use Prim.Native.Nat.{◌-◌, ◌≤◌}
use Rattle.open_market_search.proofs.held.same_row.Given as goal

abbrev pub invariant-loop-place : goal.invariant-loop-place
invariant-loop-place l = l.place ≤ 16
