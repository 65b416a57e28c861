-- `free_hours::free_of` meets its contract: the hours with one partner are taken off after those with another.
use native.Mathlib.Omega.{arith}
use Rattle.free_hours.proofs.FreeLaws.{left_all, left_more}
use Rattle.free_hours.proofs.free_of.Goals as goal

pub loop-partner-init : goal.loop-partner-init
loop-partner-init c = (omega arith, left_all _ _ _ c.hours_of-free.ensures)

pub loop-partner-preserved : goal.loop-partner-preserved
loop-partner-preserved c = (omega arith, left_more _ _ _ _ _ c.loop-partner.invariant.1 c.less_partner-free.ensures)
