-- `certificate::certified` meets its contract: what is tested of squares is what is tested of the ticket and the settlement.
use native.Mathlib.Omega.{arith}
use Rattle.certificate.proofs.Squares.{squares_certified}
use Rattle.certificate.proofs.certified.Goals as goal

pub returns : goal.returns
returns c = let a = c.args in
    rw c.rows_kept.ensures
    (squares_certified _ _ (omega (arith, c.within-n.ensures.1)) (omega (arith, c.within-m.ensures.1)) a.grower_hours a.pilot_hours c.zero_row-none.result a.tariff_cap
    a.tariff_gain a.tariff_pay a.free_cap a.joint_gain a.tariff_hours a.free_deal_hours a.pay _ _ _ _ _
    c.side-of_growers.result c.side-of_pilots.result c.zero_row-none.ensures.1 c.differences.ensures c.side-of_growers.ensures
    c.turned.ensures c.turned-2.ensures
    c.turned-3.ensures c.turned-4.ensures c.side-of_pilots.ensures _ _ c.within-n.ensures.0
    c.within-m.ensures.0)
