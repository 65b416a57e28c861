-- `reader::copy::write` meets its contract: the invariant is `Writing`: what is left, written here, makes what the whole number makes.
use Rattle.reader.proofs.Writing.{Writing}
use Rattle.reader.proofs.copy.write.Given as goal

abbrev pub invariant-loop-left : goal.invariant-loop-left
invariant-loop-left l = Writing l.initial.out l.out l.x l.at l.left l.here

abbrev pub decreases-loop-left : goal.decreases-loop-left
decreases-loop-left l = l.left
