-- `open_market_search::grids::of_grid` is safe and ends.
use Prim.Native.Nat.{◌-◌, ◌≤◌}
use Rattle.open_market_search.proofs.grids.of_grid.Given as goal

abbrev pub invariant-loop-turn : goal.invariant-loop-turn
invariant-loop-turn l = l.turn ≤ 10000
