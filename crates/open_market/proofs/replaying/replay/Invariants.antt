-- `open_market::replaying::replay` meets its contract: the calls are done one after another.
use Prim.Native.Nat.{◌-◌, ◌≤◌}
use Rattle.open_market.specs.Lists.{first_calls}
use Rattle.open_market.proofs.Histories.{Done}
use Rattle.open_market.proofs.replaying.replay.Given as goal

abbrev pub invariant-loop-k : goal.invariant-loop-k
invariant-loop-k l = (l.k ≤ l.end) × Done l.initial.last (first_calls l.calls l.k) l.first l.last
