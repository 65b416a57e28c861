-- `settler::listing::list_settlement` meets its contract.
use native.Mathlib.Omega.{arith}
use Rattle.settler.proofs.ListLaws.{listed_end}
use Rattle.settler.proofs.listing.list_settlement.Goals as goal

pub returns : goal.returns
returns c = (c.loop-k.invariant.1.long, listed_end _ _ _ _ _ _ _ (omega (arith, c.loop-k-test.false, c.loop-k.invariant.0)) c.loop-k.invariant.1)
