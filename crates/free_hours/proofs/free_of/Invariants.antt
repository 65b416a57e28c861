-- `free_hours::free_of` meets its contract: the hours with one partner are taken off after those with another.
use Prim.Native.Nat.{◌-◌, ◌≤◌}
use mathlib.Core.Path.{◌≡◌}
use Rattle.grid.specs.Sum.{sum}
use Rattle.tables.specs.View.{ticket_of, first_sixteen, hours_of, settlement_of}
use Rattle.free_hours.specs.FreeHours.{hours_with}
use Rattle.free_hours.proofs.free_of.Given as goal

abbrev pub invariant-loop-partner : goal.invariant-loop-partner
invariant-loop-partner l = (l.partner ≤ l.end) ×
    (l.free ≡ hours_of l.side (first_sixteen (ticket_of l.ticket)) l.party - sum (hours_with l.side (settlement_of l.settlement) l.party) l.partner)
