-- `groups::number` meets its contract: the invariant is `Reading`: what stands at `at` is what stands k bytes later, raised by
-- the groups so far. Assumes nothing.
use Rattle.groups.proofs.Reading.{Reading}
use Rattle.groups.proofs.number.Given as goal

abbrev pub invariant-loop-k : goal.invariant-loop-k
invariant-loop-k l = Reading l.s l.at l.k l.value l.weight l.least
