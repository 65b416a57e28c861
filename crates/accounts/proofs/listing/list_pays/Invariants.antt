-- `accounts::listing::list_pays` meets its contract: a pay and its commission are listed at each turn.
use Prim.Native.Nat.{◌-◌, ◌≤◌}
use lib.ListN.{get_or}
use Rattle.accounts.specs.Accounted.{each, pay_listed}
use Rattle.accounts.specs.Listing.{Listed}
use Rattle.accounts.proofs.listing.list_pays.Given as goal

abbrev pub invariant-loop-j : goal.invariant-loop-j
invariant-loop-j l = (l.j ≤ l.pilots) × Listed l.initial.list l.list l.from (each (λ k. pay_listed (get_or l.pays k 0)) l.j)
