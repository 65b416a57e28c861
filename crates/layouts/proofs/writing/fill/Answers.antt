-- `layouts::writing::fill` meets its contract: after k turns the text of the first k numbers stands in the page.
use native.Mathlib.Omega.{arith}
use Rattle.layouts.proofs.WritingLaws.{filling_starts, filling_room, filling_turns}
use Rattle.layouts.proofs.writing.fill.Goals as goal

pub loop-k-init : goal.loop-k-init
loop-k-init c = (omega arith, filling_starts _ _ _)

pub loop-k-preserved : goal.loop-k-preserved
loop-k-preserved c = let i = c.loop-k in
    let ends = c.ends_line-ends.ensures in
    let room = filling_room i.invariant.1 (omega arith) c.requires in
    (omega arith, filling_turns i.invariant.1 (rw (← c.entry-growers.ensures, ← c.entry-pilots.ensures, ← ends) (c.put_entry-at.ensures room)))
