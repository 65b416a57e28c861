-- `free_hours::of_side` meets its contract: the row is filled party by party.
use Prim.Native.Nat.{◌≤◌}
use Rattle.grid.specs.Fill.{FilledRow}
use Rattle.tables.specs.View.{ticket_of, first_sixteen, settlement_of}
use Rattle.free_hours.specs.FreeHours.{free_of}
use Rattle.free_hours.proofs.of_side.Given as goal

abbrev pub invariant-loop-party : goal.invariant-loop-party
invariant-loop-party l = (l.party ≤ l.end) × FilledRow (free_of l.side (first_sixteen (ticket_of l.ticket)) (settlement_of l.settlement)) l.party l.row
