-- `marker::first_over` meets its contract: nobody before this one is over his hours.
use Prim.Native.Nat.{◌-◌, ◌≤◌}
use lib.ListN.{get_or}
use Rattle.grid.specs.First.{NoneBefore}
use Rattle.marker.specs.Tables.{nobody, is_over}
use Rattle.marker.proofs.parties.first_over.Given as goal

abbrev pub invariant-loop-p : goal.invariant-loop-p
invariant-loop-p l = (l.p ≤ l.count) × NoneBefore (λ q. is_over (get_or l.parties q nobody)) l.p
