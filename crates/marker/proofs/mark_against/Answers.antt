-- `marker::mark_against` meets its contract: the settlement's bytes are refused, or read into numbers that are judged.
use Rattle.std.specs.Prelude.{Ok}
use mathlib.Core.Path.{◌≡◌, sym, ◌∙◌}
use native.Mathlib.Omega.{arith}
use Rattle.reader.specs.Answer.{settlement_read}
use Rattle.marker.proofs.Marking.{refused_answer, answer_is, answer_sized, judged_answer}
use Rattle.marker.proofs.mark_against.Goals as goal

pub judge-requires-clause-settlement_value : goal.judge-requires-clause-settlement_value
judge-requires-clause-settlement_value c = (answer_sized c.args.ticket.now _ _ _ _ c.growers-growers.ensures.0 c.pilots-pilots.ensures.0 ((let h2 : settlement_read c.growers-growers.result c.pilots-pilots.result c.args.settlement.now ≡ Ok
    c.front.result.now = let u = c.read_settlement-reply in
    answer_is _ _ _ _ _ _ (sym c.in-Ok.is ∙ u.ensures.tells.reply)
    (rw u.ensures.list_after at c.front.ensures) in h2)))

pub returns-in-Err : goal.returns-in-Err
returns-in-Err c = let few = c.requires in
    refused_answer c.args.ticket.now _
    c.settlement_list-numbers.result _ _ _ c.growers-growers.ensures.0 c.pilots-pilots.ensures.0
    (omega (arith, c.growers-growers.ensures.0, few)) (omega (arith, c.pilots-pilots.ensures.0, few))
    c.settlement_list-numbers.ensures.1
    (sym c.in-Err.is ∙ c.read_settlement-reply.ensures.tells.reply)

pub returns-in-Ok : goal.returns-in-Ok
returns-in-Ok c = judged_answer c.args.ticket.now _ _ _ _ _ c.growers-growers.ensures.0 c.pilots-pilots.ensures.0 ((let h2 : settlement_read c.growers-growers.result c.pilots-pilots.result c.args.settlement.now ≡ Ok
    c.front.result.now = let u = c.read_settlement-reply in
    answer_is _ _ _ _ _ _ (sym c.in-Ok.is ∙ u.ensures.tells.reply)
    (rw u.ensures.list_after at c.front.ensures) in h2))
    c.judge.ensures
