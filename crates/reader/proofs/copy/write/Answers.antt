-- `reader::copy::write` meets its contract: the invariant is `Writing`: what is left, written here, makes what the whole number makes.
use Rattle.reader.proofs.Writing.{writing_room, writing_turns, writing_ends}
use Rattle.reader.proofs.copy.write.Goals as goal

pub bounds-out-here : goal.bounds-out-here
bounds-out-here c = writing_room c.loop-left.invariant c.requires

pub loop-left-preserved : goal.loop-left-preserved
loop-left-preserved c = writing_turns c.loop-left.invariant c.loop-left-test.true

pub bounds-out-here-2 : goal.bounds-out-here-2
bounds-out-here-2 c = writing_room c.loop-left.invariant c.requires

pub returns : goal.returns
returns c = writing_ends c.loop-left.invariant c.loop-left-test.false
