-- `marker::mark` meets its contract: the ticket's bytes are refused, or unpacked into numbers that the settlement is marked against.
use Rattle.std.specs.Prelude.{Ok}
use mathlib.Core.Path.{◌≡◌, sym, ap, ◌∙◌}
use Rattle.reader.specs.Answer.{unpacked}
use Rattle.verdicts.specs.Values.{values_of}
use Rattle.marker.proofs.Marking.{refused_ticket, unpacked_is, marked-ticket, few_parties}
use Rattle.marker.proofs.mark.Goals as goal

pub mark_against-requires : goal.mark_against-requires
mark_against-requires c = few_parties _ _ ((let h0 : unpacked c.args.ticket.now
    ≡ Ok c.front.result.now = let u = c.unpack-reply in
    unpacked_is _ _ _ _ (sym c.in-Ok.is ∙ u.ensures.tells.reply)
    (rw u.ensures.list_after at c.front.ensures) in h0))

pub returns-in-Err-clause-value : goal.returns-in-Err-clause-value
returns-in-Err-clause-value c = refused_ticket _ _ c.ticket_list-numbers.result _
    c.ticket_list-numbers.ensures.1
    (sym c.in-Err.is ∙ c.unpack-reply.ensures.tells.reply)

pub returns-in-Err-clause-result_value : goal.returns-in-Err-clause-result_value
returns-in-Err-clause-result_value c = ap values_of (refused_ticket _ _ c.ticket_list-numbers.result _
    c.ticket_list-numbers.ensures.1
    (sym c.in-Err.is ∙ c.unpack-reply.ensures.tells.reply))

pub returns-in-Ok-clause-value : goal.returns-in-Ok-clause-value
returns-in-Ok-clause-value c =
    let h0 : unpacked c.args.ticket.now ≡ Ok c.front.result.now = let u = c.unpack-reply in
    unpacked_is _ _ _ _ (sym c.in-Ok.is ∙ u.ensures.tells.reply)
    (rw u.ensures.list_after at c.front.ensures) in
    marked-ticket _ _ _ _ h0 c.mark_against.ensures

pub returns-in-Ok-clause-result_value : goal.returns-in-Ok-clause-result_value
returns-in-Ok-clause-result_value c =
    let h0 : unpacked c.args.ticket.now ≡ Ok c.front.result.now = let u = c.unpack-reply in
    unpacked_is _ _ _ _ (sym c.in-Ok.is ∙ u.ensures.tells.reply)
    (rw u.ensures.list_after at c.front.ensures) in
    ap values_of (marked-ticket _ _ _ _ h0 c.mark_against.ensures)
