-- `open_market::opening::open` meets its contract: the ticket's bytes are refused, or unpacked and settled.
use mathlib.Core.Path.{refl, sym, ◌∙◌}
use Rattle.open_market.proofs.CallLaws.{opened_refused, opened_done}
use Rattle.open_market.proofs.opening.open.Goals as goal

pub returns-in-Ok : goal.returns-in-Ok
returns-in-Ok c = let z = c.ticket_list-ticket.ensures in
    opened_done _ _ _ z.0 z.1 c.unpack.ensures.list_after _ _ _ (sym c.in-Ok.is ∙ c.unpack.ensures.tells.reply)
    c.settled.ensures refl

pub returns-in-Err : goal.returns-in-Err
returns-in-Err c = let z = c.ticket_list-ticket.ensures in
    opened_refused _ _ _ z.0 z.1 c.unpack.ensures.list_after _ _ (sym c.in-Err.is ∙ c.unpack.ensures.tells.reply) refl
