-- `places::reading::bytes_of` meets its contract: the invariant is `Summing`: the bytes so far and those that are left.
use mathlib.Core.Path.{◌≡◌}
use lib.ListN.{length}
use Rattle.places.proofs.ReadingLaws.{Summing}
use Rattle.places.proofs.reading.bytes_of.Given as goal

abbrev pub invariant-loop-x : goal.invariant-loop-x
invariant-loop-x l = (l.x-index-end ≡ length l.list) × Summing l.list l.x-index l.total
