-- `reader::copy::write_all` meets its contract: the invariant is `Packing`: the bytes that are left, written from here on, make the
-- whole. Assumes nothing.
use mathlib.Core.Path.{◌≡◌}
use lib.ListN.{length}
use Rattle.reader.proofs.Packing.{Packing}
use Rattle.reader.proofs.copy.write_all.Given as goal

abbrev pub invariant-loop-x : goal.invariant-loop-x
invariant-loop-x l = (l.x-index-end ≡ length l.list) × Packing l.list l.initial.out l.out l.x-index l.here
