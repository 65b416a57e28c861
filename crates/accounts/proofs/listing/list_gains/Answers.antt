-- `accounts::listing::list_gains` meets its contract: a gain is listed at each turn.
use native.Mathlib.Omega.{arith}
use Rattle.accounts.proofs.ListLaws.{listed_none, listed_gain}
use Rattle.accounts.proofs.listing.list_gains.Goals as goal

pub loop-i-init : goal.loop-i-init
loop-i-init c = (omega arith, listed_none _ _ _)

pub loop-i-preserved : goal.loop-i-preserved
loop-i-preserved c = (
  omega arith,
  listed_gain _ _ c.args.gains _ _ (omega arith) c.narrow.ensures.0 c.loop-i.invariant.1,
)
