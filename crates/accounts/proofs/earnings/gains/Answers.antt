-- `accounts::earnings::gains` meets its contract: a grower's rows are those of the squares.
use mathlib.Core.Path.{◌∙◌}
use native.Mathlib.Omega.{arith}
use Rattle.accounts.proofs.EarningLaws.{gain_is}
use Rattle.accounts.proofs.earnings.gains.Goals as goal

pub returns : goal.returns
returns c = let en = c.growers.ensures.0 in
    let em = c.pilots.ensures.0 in
    λ i hi. c.earnings.ensures i (omega arith)
    ∙ gain_is _ _ c.requires _ _ en em
    c.square.ensures c.square-2.ensures c.square-5.ensures
    c.square-3.ensures c.square-4.ensures i hi
