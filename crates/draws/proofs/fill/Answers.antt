-- `draws::fill` meets its contract: head, hours and pairs are the ticket's numbers.
use native.Mathlib.Omega.{arith}
use Rattle.draws.proofs.Storing.{ticket_stored}
use Rattle.draws.proofs.fill.Goals as goal

pub returns : goal.returns
returns c = (ticket_stored c.args.list.now _ _ c.args.growers c.args.pilots c.args.pairs c.args.x _ _
    (omega (arith, c.requires.growers_bound)) c.requires.growers_bound.2
    c.fill_hours-hours.ensures.number_value.0
    c.fill_hours-hours.ensures.number_value.1
    c.fill_hours-hours.ensures.list_after
    c.fill_pairs.ensures)
