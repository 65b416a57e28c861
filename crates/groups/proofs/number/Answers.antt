-- `groups::number` meets its contract: the invariant is `Reading`: what stands at `at` is what stands k bytes later, raised by
-- the groups so far. Assumes nothing.
use native.Mathlib.Omega.{arith}
use Rattle.groups.proofs.Reading.{reading_past, reading_ends, reading_long}
use Rattle.groups.proofs.Reading.{reading_padded, reading_number, reading_turns}
use Rattle.groups.proofs.number.Goals as goal

pub returns-then-s-at : goal.returns-then-s-at
returns-then-s-at c = reading_past _ _ c.if-s-at.true

pub returns-then-s-here : goal.returns-then-s-here
returns-then-s-here c = reading_ends c.loop-k.invariant c.loop-k-test.true c.if-s-here.true

pub returns-then-b-least : goal.returns-then-b-least
returns-then-b-least c = reading_padded
    c.loop-k.invariant
    c.from-b.result c.from-b.ensures (omega arith) (omega arith) (omega arith) (omega arith)

pub returns-then-b-lt128 : goal.returns-then-b-lt128
returns-then-b-lt128 c = reading_number
    c.loop-k.invariant
    c.from-b.result c.from-b.ensures (omega arith) (omega arith) (omega arith) (omega arith)

pub loop-k-preserved : goal.loop-k-preserved
loop-k-preserved c = reading_turns
    c.loop-k.invariant
    c.from-b.result c.from-b.ensures (omega arith) (omega arith) (omega arith)

pub returns : goal.returns
returns c = reading_long c.loop-k.invariant (omega arith)
