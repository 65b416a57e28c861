-- `open_market::replaying::replay` meets its contract: the calls are done one after another.
use native.Mathlib.Omega.{arith}
use Rattle.open_market.proofs.Histories.{done_none, done_more, done_all}
use Rattle.open_market.proofs.replaying.replay.Goals as goal

pub loop-k-init : goal.loop-k-init
loop-k-init c = (omega arith, done_none _ _)

pub loop-k-preserved : goal.loop-k-preserved
loop-k-preserved c = (omega (arith, c.loop-k-test.true), done_more _ _ _ _ _ _ _ c.loop-k.invariant.1 c.call_next-refusal.ensures)

pub returns : goal.returns
returns c = done_all _ _ _ _ _ (omega (arith, c.loop-k-test.false, c.loop-k.invariant.0, c.count-end.ensures))
    c.loop-k.invariant.1
