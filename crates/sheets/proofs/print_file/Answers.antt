-- `sheets::print_file` meets its contract: the file is read into the numbers of the sound settlement, whose deals the marker counts.
use Rattle.std.specs.Prelude.{Ok}
use mathlib.Core.Path.{◌≡◌, sym, ◌∙◌}
use Rattle.reader.specs.Answer.{settlement_read}
use Rattle.marker.proofs.Marking.{answer_is}
use Rattle.sheets.proofs.PrintLaws.{file_not_refused, read_together, printed_settled}
use Rattle.sheets.proofs.print_file.Goals as goal

pub settled_text-requires : goal.settled_text-requires
settled_text-requires c = read_together c.requires _ _ c.growers-growers.ensures.0 c.pilots-pilots.ensures.0 _ ((let h2 : settlement_read c.growers-growers.result c.pilots-pilots.result c.args.file.now ≡
    Ok c.front.result.now = let u = c.read_settlement-reply in
    answer_is _ _ _ _ _ _ (sym c.in-Ok.is ∙ u.ensures.tells.reply)
    (rw u.ensures.list_after at c.front.ensures) in h2)) _
    c.marked_deals.ensures

pub returns-in-Err : goal.returns-in-Err
returns-in-Err c = let z = c.settlement_list-list in
    file_not_refused c.requires _ _ c.growers-growers.ensures.0 c.pilots-pilots.ensures.0 z.result _ z.ensures.1
    (sym c.in-Err.is ∙ c.read_settlement-reply.ensures.tells.reply)

pub returns-in-Ok : goal.returns-in-Ok
returns-in-Ok c = printed_settled c.requires _ _ c.growers-growers.ensures.0 c.pilots-pilots.ensures.0 _ ((let h2 : settlement_read c.growers-growers.result c.pilots-pilots.result c.args.file.now ≡
    Ok c.front.result.now = let u = c.read_settlement-reply in
    answer_is _ _ _ _ _ _ (sym c.in-Ok.is ∙ u.ensures.tells.reply)
    (rw u.ensures.list_after at c.front.ensures) in h2))
    c.settled_text.ensures
