-- `marker::judge_exactly` meets its contract: a fault of a pair, or else what the parties come to.
use Prim.Native.Nat.{◌*◌}
use mathlib.Core.Path.{◌≡◌, ap, ◌∙◌}
use Rattle.market.specs.Tables.{ticket_in, settlement_in}
use Rattle.market.specs.Totals.{promised_worth}
use Rattle.marker.specs.Verdict.{by_pair, pair_verdict, pair_fault_at, hours_judged}
use Rattle.marker.specs.Tables.{Origin}
use Rattle.marker.proofs.Verdicts.{walk_none, all_within}
use Rattle.marker.proofs.PartyRows.{grower_is, pilot_is}
use Rattle.marker.proofs.judging.judge_exactly.Goals as goal

pub returns : goal.returns
returns c = let a = c.args in
    let t = ((let a = c.args in
    ticket_in c.args.sides.growers c.args.sides.pilots a.grower_hours a.pilot_hours a.tariff_cap a.tariff_gain a.tariff_pay a.free_cap a.joint_gain)) in
    let x = (let a = c.args in settlement_in a.tariff_hours a.free_deal_hours a.pay) in
    let o : Origin a.sides.growers a.sides.pilots c.parties-growers.result c.parties-pilots.result a.tariff_cap a.free_cap
    a.joint_gain = record {
      grower_hours = a.grower_hours;
      pilot_hours = a.pilot_hours;
      tariff_gain = a.tariff_gain;
      tariff_pay = a.tariff_pay;
      tariff_hours = a.tariff_hours;
      free_deal_hours = a.free_deal_hours;
      pay = a.pay;
      grower = λ i hi. grower_is a.sides.growers a.sides.pilots a.sides.few_growers a.sides.few_pilots a.grower_hours a.tariff_hours
          a.free_deal_hours a.tariff_gain a.joint_gain a.pay _ c.differences-shares.ensures i hi _ (c.parties-growers.ensures i hi);
      pilot = λ j hj. pilot_is a.sides.growers a.sides.pilots a.sides.few_growers a.sides.few_pilots a.pilot_hours a.tariff_hours
          a.free_deal_hours a.tariff_pay a.pay _ _ _ _ c.turned-by_tariff.ensures c.turned-by_free.ensures c.turned-earned.ensures
          c.turned-paid.ensures j hj _ (c.parties-pilots.ensures j hj);
    } in
    c.judge_parties.ensures o ∙ ap (hours_judged t x) ((let h3 : c.promised_worth-worth.result ≡ (promised_worth (((let a = c.args in
    ticket_in c.args.sides.growers c.args.sides.pilots a.grower_hours a.pilot_hours a.tariff_cap a.tariff_gain a.tariff_pay a.free_cap a.joint_gain))) ((let a = c.args in settlement_in a.tariff_hours a.free_deal_hours a.pay)).hours) = let a = c.args in
    c.promised_worth-worth.ensures a.grower_hours a.pilot_hours a.tariff_gain a.tariff_pay a.free_cap a.tariff_hours a.pay
    ∙ all_within (λ n m. promised_worth ((let a = c.args in
    ticket_in n m a.grower_hours a.pilot_hours a.tariff_cap a.tariff_gain a.tariff_pay a.free_cap a.joint_gain)) ((let a = c.args in settlement_in a.tariff_hours a.free_deal_hours a.pay)).hours) a.sides.growers a.sides.pilots c.args.sides.few_growers c.args.sides.few_pilots in h3))
    ∙ walk_none (pair_fault_at t x) (t.growers * t.pilots) (by_pair (pair_verdict t x) t.pilots) (hours_judged t x ((promised_worth (((let a = c.args in
    ticket_in c.args.sides.growers c.args.sides.pilots a.grower_hours a.pilot_hours a.tariff_cap a.tariff_gain a.tariff_pay a.free_cap a.joint_gain))) ((let a = c.args in settlement_in a.tariff_hours a.free_deal_hours a.pay)).hours))) _
    c.first_pair_fault-found.ensures c.in_default.is
