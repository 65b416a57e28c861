-- `method::pilot_limits::pilots_slack` meets its contract.
use Prim.Native.Nat.{◌≤◌}
use Rattle.method.specs.View.{line}
use Rattle.method.specs.Jumps.{among, PilotsBear}
use Rattle.method.proofs.pilot_limits.pilots_slack.Given as goal

abbrev pub invariant-loop-j : goal.invariant-loop-j
invariant-loop-j l = (l.j ≤ l.fn.sides.pilots) × PilotsBear (among l.marks) (line l.free) (line l.price) l.j l.by
