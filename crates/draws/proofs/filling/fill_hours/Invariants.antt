-- `draws::filling::fill_hours` meets its contract: what is left to store makes the whole.
use Rattle.draws.proofs.Storing.{HoursLeft}
use Rattle.draws.proofs.filling.fill_hours.Given as goal

abbrev pub invariant-loop-k : goal.invariant-loop-k
invariant-loop-k l = HoursLeft l.initial.list l.from l.count l.x l.list l.here l.without l.k
