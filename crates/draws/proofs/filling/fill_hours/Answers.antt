-- `draws::filling::fill_hours` meets its contract: what is left to store makes the whole.
use Rattle.draws.proofs.Storing.{hours_turn}
use Rattle.draws.proofs.filling.fill_hours.Goals as goal

pub loop-k-preserved : goal.loop-k-preserved
loop-k-preserved c = hours_turn c.loop-k.invariant _ _ _ _ c.loop-k-test.true c.hours-drawn.ensures
    c.from.ensures c.noted-without.ensures c.next-here.ensures
