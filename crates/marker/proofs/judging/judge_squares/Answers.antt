-- `marker::judge_squares` meets its contract: what is certified is judged sound, and else all is looked at.
use mathlib.Core.Path.{refl, sym, ◌∙◌}
use native.Mathlib.Omega.{arith}
use Rattle.market.specs.Tables.{ticket_in, settlement_in}
use Rattle.market.specs.Totals.{promised_worth}
use Rattle.certificate.specs.Certified.{certified}
use Rattle.marker.proofs.Soundness.{certified-judged}
use Rattle.marker.proofs.Verdicts.{all_within}
use Rattle.marker.proofs.judging.judge_squares.Goals as goal

pub returns-then-certified : goal.returns-then-certified
returns-then-certified c = let a = c.args in
    let x = (let a = c.args in settlement_in a.tariff_hours a.free_deal_hours a.pay) in
    certified-judged ((let a = c.args in
    ticket_in a.sides.growers a.sides.pilots a.grower_hours a.pilot_hours a.tariff_cap a.tariff_gain a.tariff_pay a.free_cap a.joint_gain)) x (record { grower = λ i. refl; pilot = λ j. refl })
    (sym (all_within (λ n m. certified ((let a = c.args in
    ticket_in n m a.grower_hours a.pilot_hours a.tariff_cap a.tariff_gain a.tariff_pay a.free_cap a.joint_gain)) x) a.sides.growers a.sides.pilots c.args.sides.few_growers c.args.sides.few_pilots)
    ∙ sym c.certified.ensures ∙ c.if-certified.true) _ _
    (omega (arith, c.pairs.ensures.1 (omega arith) (omega arith)))
    (c.promised_worth.ensures a.grower_hours a.pilot_hours a.tariff_gain a.tariff_pay a.free_cap a.tariff_hours a.pay
    ∙ all_within (λ n m. promised_worth ((let a = c.args in
    ticket_in n m a.grower_hours a.pilot_hours a.tariff_cap a.tariff_gain a.tariff_pay a.free_cap a.joint_gain)) x.hours) a.sides.growers a.sides.pilots c.args.sides.few_growers c.args.sides.few_pilots)
