-- `reader::copy::size_all` meets its contract: the invariant is `Summing`: the bytes so far and those that are left. Assumes nothing.
use mathlib.Core.Path.{◌≡◌}
use lib.ListN.{length}
use Rattle.reader.proofs.Packing.{Summing}
use Rattle.reader.proofs.copy.size_all.Given as goal

abbrev pub invariant-loop-x : goal.invariant-loop-x
invariant-loop-x l = (l.x-index-end ≡ length l.list) × Summing l.list l.x-index l.total
