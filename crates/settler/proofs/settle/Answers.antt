-- `settler::settle` meets its contract: the ticket's bytes are refused, or unpacked into numbers that are settled.
use Rattle.scanning.proofs.Running.{met_is}
use Rattle.marker.proofs.Marking.{unpacked_is}
use Rattle.settler.proofs.Answering.{refused_settles, answers_settle}
use Rattle.settler.proofs.settle.Goals as goal

pub settle_numbers-requires : goal.settle_numbers-requires
settle_numbers-requires c = record {
  bytes = c.args.ticket.now;
  from = unpacked_is _ _ _ _ c.in_ok-count.ensures.tells.reply (rw c.unpack.ensures.list_after at c.front.ensures);
}

pub returns-in_err-count : goal.returns-in_err-count
returns-in_err-count c = rw (met_is c.from_residual.result _ c.from_residual.ensures.1)
    (refused_settles _ c.ticket_list-numbers.result _ _ c.ticket_list-numbers.ensures.1 c.in_err-count.ensures.tells.reply)

pub returns : goal.returns
returns c =
    let e = unpacked_is _ _ _ _ c.in_ok-count.ensures.tells.reply (rw c.unpack.ensures.list_after at c.front.ensures) in
    answers_settle _ _ _ _ _ e (c.settle_numbers.ensures _ e)
