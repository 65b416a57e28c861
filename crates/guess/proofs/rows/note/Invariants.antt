-- `guess::rows::note` is safe and ends: every place is one of 16.
use Rattle.std.proofs.Common.{◌-◌, ◌≤◌}
use Rattle.guess.proofs.rows.note.Given as goal

abbrev pub invariant-loop-j : goal.invariant-loop-j
invariant-loop-j l = l.j ≤ 16
