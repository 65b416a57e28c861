-- `sheets::print_settled` meets its contract: settling never refuses here, and what it wrote is the file of a sound settlement.
use Rattle.sheets.proofs.PrintLaws.{settle_not_refused}
use Rattle.sheets.proofs.print_settled.Goals as goal

pub returns-in-Err : goal.returns-in-Err
returns-in-Err c = let z = c.no_bytes-settlement in
    settle_not_refused c.args.ticket.now _ z.result _ _
    c.requires z.ensures
    c.settle-reply.ensures _ c.in-Err.is
