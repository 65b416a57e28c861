-- `totals::promised_worth` meets its contract: without standby the worth is the joint gain of all hours flown.
use Prim.Native.Nat.{min}
use mathlib.Core.Path.{◌≡◌, refl, sym, ◌∙◌}
use Rattle.market.specs.Tables.{ticket_in, settlement_in}
use Rattle.market.specs.Totals.{gain_total}
use Rattle.market.proofs.BestTotal.{worth_is_gain}
use Rattle.market.proofs.PromisedWorth.{promised_total}
use Rattle.totals.proofs.promised_worth.Goals as goal

pub returns-else-has_tariff_deal : goal.returns-else-has_tariff_deal
returns-else-has_tariff_deal c = λ grower_hours pilot_hours tariff_gain tariff_pay free_cap tariff_hours pay. let t = (let a = c.args in
    ticket_in (min 16 a.growers) (min 16 a.pilots) grower_hours pilot_hours a.tariff_cap tariff_gain tariff_pay free_cap a.joint_gain) in
    let h = ((settlement_in tariff_hours c.args.free_deal_hours pay).hours) in
    let gain : c.gain_total.result ≡ gain_total t h = c.gain_total.ensures in
    gain ∙ sym (worth_is_gain t (λ i hi. refl) (λ j hj. refl) h)
    ∙ promised_total t h c.has_tariff_deal.result c.has_tariff_deal.ensures c.if-has_tariff_deal.false
