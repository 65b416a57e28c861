-- `method::settle_squares` meets its contract.
use Rattle.std.proofs.Common.{[], arith}
use Rattle.market.specs.Method.{GoodShift}
use Rattle.method.specs.View.{line, ticket}
use Rattle.method.proofs.Bounds.{fits}
use Rattle.method.proofs.EuroPrices.{found_good}
use Rattle.method.proofs.TurnLaws.{hours_fit}
use Rattle.method.proofs.Soundness.{flown_sound}
use Rattle.method.proofs.settle_squares.Goals as goal

pub run-held-requires-clause-fit : goal.run-held-requires-clause-fit
run-held-requires-clause-fit c = let a = c.args in
    fits _ _ a.grower_hours a.pilot_hours c.terms_square-terms.result _ (omega arith) (omega arith) c.terms_square-terms.type_inv

pub write_flown-requires-clause-bounds : goal.write_flown-requires-clause-bounds
write_flown-requires-clause-bounds c =
    let good : GoodShift (ticket 0 c.within-2.result [] [] []) (line c.run-held.new.price) c.rounding-shift.result =
    found_good c.run-held.new.price _ _ (omega arith) c.rounding-shift.ensures in
    (good.small, c.run-held.ensures.live.low)

pub write_flown-requires-clause-j_bound : goal.write_flown-requires-clause-j_bound
write_flown-requires-clause-j_bound c = let a = c.args in
    hours_fit _ _ _
    (fits _ _ a.grower_hours a.pilot_hours c.terms_square-terms.result _ (omega arith) (omega arith) c.terms_square-terms.type_inv)
    c.run-held.ensures.live

pub returns-clause-sound : goal.returns-clause-sound
returns-clause-sound c = let a = c.args in
    let n = c.within in
    let m = c.within-2 in
    let t = c.terms_square-terms in
    let good : GoodShift (ticket 0 m.result [] [] []) (line c.run-held.new.price) c.rounding-shift.result =
    found_good c.run-held.new.price _ _ (omega arith) c.rounding-shift.ensures in
    let s = flown_sound n.result m.result a.grower_hours a.pilot_hours
    a.tariff_cap a.tariff_gain a.tariff_pay a.free_cap a.joint_gain t.result t.ensures
    c.run-held.ensures good c.write_flown.ensures in
    rw (n.ensures.0, m.ensures.0) at s
