-- `draws::filling::fill_pairs` meets its contract: what is left to store makes the whole.
use Rattle.draws.proofs.Storing.{PairsLeft}
use Rattle.checks.specs.Hours.{none_of}
use Rattle.draws.proofs.filling.fill_pairs.Given as goal

abbrev pub invariant-loop-k : goal.invariant-loop-k
invariant-loop-k l = PairsLeft (none_of l.hours.without l.growers l.pilots) l.initial.list l.from l.count l.hours.number l.list l.here l.k
