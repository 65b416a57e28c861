-- `reader::copy::write_all` meets its contract: the invariant is `Packing`: the bytes that are left, written from here on, make the
-- whole. Assumes nothing.
use native.Mathlib.Omega.{arith}
use Rattle.reader.proofs.Packing.{packing_turns}
use Rattle.reader.proofs.copy.write_all.Goals as goal

pub loop-x-preserved : goal.loop-x-preserved
loop-x-preserved c = (
  c.loop-x.invariant.0,
  packing_turns c.loop-x.invariant.1 _ (omega arith) c.from.ensures _ _ c.write-here.ensures.0 c.write-here.ensures.1,
)
