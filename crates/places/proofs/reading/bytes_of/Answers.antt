-- `places::reading::bytes_of` meets its contract: the invariant is `Summing`: the bytes so far and those that are left.
use Rattle.std.proofs.Common.{rules}
use native.Mathlib.Omega.{arith}
use Rattle.places.proofs.ReadingLaws.{summing_turns}
use Rattle.places.proofs.reading.bytes_of.Goals as goal

pub overflow_add-total : goal.overflow_add-total
overflow_add-total c =
    let r = summing_turns _ _ _ _ c.loop-x.invariant.1 (omega arith) (search rules) c.size-total.ensures in
    omega (arith, r.few, r.turns, c.requires)

pub loop-x-preserved : goal.loop-x-preserved
loop-x-preserved c = (c.loop-x.invariant.0, summing_turns _ _ _ _ c.loop-x.invariant.1 (omega arith) (search rules) c.size-total.ensures)
