-- `marker::judge` meets its contract: the squares hold what the lists say.
use mathlib.Core.Path.{◌∙◌}
use native.Mathlib.Omega.{arith}
use Rattle.marker.proofs.SameVerdicts.{judged_lists}
use Rattle.marker.proofs.judging.judge.Goals as goal

pub returns : goal.returns
returns c = let a = c.args in
    let g = c.growers.ensures.0 in
    let p = c.pilots.ensures.0 in
    c.judge_squares.ensures
    ∙ judged_lists a.ticket.now a.settlement.now _ _ g p (omega (arith, g, c.requires.ticket_bound)) (omega (arith, p, c.requires.ticket_bound))
    c.requires.settlement_value.0 c.requires.settlement_value.1
    (record {
      grower_hours_in = c.hours.ensures;
      pilot_hours_in = c.hours-2.ensures;
      tariff_cap_in = c.square.ensures;
      tariff_gain_in = c.square-2.ensures;
      tariff_pay_in = c.square-3.ensures;
      free_cap_in = c.square-4.ensures;
      joint_gain_in = c.square-5.ensures;
    })
    (record {
      tariff_hours_in = c.square-6.ensures;
      free_deal_hours_in = c.square-7.ensures;
      pay_in = c.square-8.ensures;
    })
