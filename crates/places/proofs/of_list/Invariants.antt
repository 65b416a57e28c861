-- `places::of_list` meets its contract: no beginning that was passed is faulty.
use Prim.Native.Nat.{◌≤◌}
use lib.ListN.{length}
use Rattle.grid.specs.First.{NoneBefore}
use Rattle.places.specs.Places.{faulty_at}
use Rattle.places.proofs.of_list.Given as goal

abbrev pub invariant-loop-k : goal.invariant-loop-k
invariant-loop-k l = (l.k ≤ length l.list) × NoneBefore (faulty_at l.document l.list) l.k
