-- `cases::all` ends: the text that is left gets shorter.
use Rattle.std.proofs.Common.{length}
use Rattle.cases.proofs.all.Given as goal

abbrev pub decreases-loop-rest : goal.decreases-loop-rest
decreases-loop-rest l = length l.rest
