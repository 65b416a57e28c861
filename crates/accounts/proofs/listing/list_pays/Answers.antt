-- `accounts::listing::list_pays` meets its contract: a pay and its commission are listed at each turn.
use mathlib.Core.Path.{refl, ap, ◌∙◌}
use native.Mathlib.Omega.{arith}
use Rattle.commission.specs.Bands.{commission}
use Rattle.accounts.proofs.ListLaws.{listed_none, listed_pay}
use Rattle.accounts.proofs.listing.list_pays.Goals as goal

pub loop-j-init : goal.loop-j-init
loop-j-init c = (omega arith, listed_none _ _ _)

pub loop-j-preserved : goal.loop-j-preserved
loop-j-preserved c = let fee = c.commission.ensures ∙ ap commission c.cents.ensures in
    let so_far = c.loop-j.invariant.1 in
    (omega arith, listed_pay _ _ c.args.pays _ _ _ _ _ refl (omega arith) c.narrow-pay.ensures.0 fee so_far)
