-- `accounts::listing::list_gains` meets its contract: a gain is listed at each turn.
use Prim.Native.Nat.{◌-◌, ◌≤◌}
use lib.ListN.{get_or}
use Rattle.accounts.specs.Accounted.{each, gain_listed}
use Rattle.accounts.specs.Listing.{Listed}
use Rattle.accounts.proofs.listing.list_gains.Given as goal

abbrev pub invariant-loop-i : goal.invariant-loop-i
invariant-loop-i l = (l.i ≤ l.growers) × Listed l.initial.list l.list 0 (each (λ k. gain_listed (get_or l.gains k 0)) l.i)
