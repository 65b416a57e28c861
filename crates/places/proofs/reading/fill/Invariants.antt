-- `places::reading::fill` meets its contract: the invariant is `Reading`: the numbers that are left are read from here on.
use Rattle.places.proofs.ReadingLaws.{Reading}
use Rattle.places.proofs.reading.fill.Given as goal

abbrev pub invariant-loop-k : goal.invariant-loop-k
invariant-loop-k l = Reading l.s l.initial.list l.list l.here l.k
