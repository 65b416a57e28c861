-- `sheets::sheet` meets its contract: the ticket's bytes are refused, or unpacked into numbers that are settled.
use Rattle.std.specs.Prelude.{Ok}
use mathlib.Core.Path.{◌≡◌, sym, ◌∙◌}
use Rattle.reader.specs.Answer.{unpacked}
use Rattle.marker.proofs.Marking.{unpacked_is}
use Rattle.sheets.proofs.PrintLaws.{refused_sheeted, unpacked_sheeted}
use Rattle.sheets.proofs.sheet.Goals as goal

pub sheet_settled-requires : goal.sheet_settled-requires
sheet_settled-requires c = (let h0 : unpacked c.args.ticket.now
    ≡ Ok c.front.result.now = let u = c.unpack-reply in
    unpacked_is _ _ _ _ (sym c.in-Ok.is ∙ u.ensures.tells.reply)
    (rw u.ensures.list_after at c.front.ensures) in h0)

pub returns-in-Err : goal.returns-in-Err
returns-in-Err c = let z = c.ticket_list-numbers in
    refused_sheeted _ z.result _ _ _ _ z.ensures.1
    (sym c.in-Err.is ∙
    c.unpack-reply.ensures.tells.reply)
    c.sheet_refused.ensures

pub returns-in-Ok : goal.returns-in-Ok
returns-in-Ok c = unpacked_sheeted _ _ _ _ _ ((let h0 : unpacked c.args.ticket.now
    ≡ Ok c.front.result.now = let u = c.unpack-reply in
    unpacked_is _ _ _ _ (sym c.in-Ok.is ∙ u.ensures.tells.reply)
    (rw u.ensures.list_after at c.front.ensures) in h0)) c.sheet_settled.ensures
