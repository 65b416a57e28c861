-- `draws::filling::fill_pairs` meets its contract: what is left to store makes the whole.
use Rattle.draws.proofs.Storing.{pairs_turn}
use Rattle.draws.proofs.filling.fill_pairs.Goals as goal

pub loop-k-preserved : goal.loop-k-preserved
loop-k-preserved c = pairs_turn
    c.loop-k.invariant
    _ _ _
    c.loop-k-test.true
    c.pair_has_none-none.ensures
    c.fill_pair-here.ensures.list_after
    c.fill_pair-here.ensures.value
