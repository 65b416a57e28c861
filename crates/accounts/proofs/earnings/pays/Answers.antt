-- `accounts::earnings::pays` meets its contract: a pilot's rows are those of the squares on their side.
use mathlib.Core.Path.{◌∙◌}
use native.Mathlib.Omega.{arith}
use Rattle.accounts.proofs.EarningLaws.{pay_is}
use Rattle.accounts.proofs.earnings.pays.Goals as goal

pub returns : goal.returns
returns c = λ j hj. c.earnings.ensures j (omega (arith, c.pilots-m.ensures.0))
    ∙ pay_is _ _ c.requires _ _ c.growers-n.ensures.0 c.pilots-m.ensures.0
    c.square.ensures
    c.square-2.ensures c.square-4.ensures
    c.turned.result c.turned-2.result c.turned-3.result c.turned-4.result c.zeros.result
    c.square-3.ensures c.turned.ensures
    c.turned-2.ensures c.turned-3.ensures c.turned-4.ensures c.zeros.ensures.1 j hj
