-- `guess::rows::look_times` is safe and ends: every place is one of 16.
use Rattle.std.proofs.Common.{◌-◌, ◌≤◌}
use Rattle.guess.proofs.rows.look_times.Given as goal

abbrev pub invariant-loop-k : goal.invariant-loop-k
invariant-loop-k l = l.k ≤ 16
