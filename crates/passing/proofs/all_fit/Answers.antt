-- `passing::all_fit` meets its contract: whether the numbers that were looked at fit. Assumes nothing.
use mathlib.Core.Path.{refl, sym}
use native.Mathlib.Omega.{arith}
use Rattle.grid.proofs.EveryLaws.{every-none, every_turn}
use Rattle.passing.proofs.all_fit.Goals as goal

pub loop-x-init : goal.loop-x-init
loop-x-init c = (refl, omega arith, sym (every-none _))

pub loop-x-preserved : goal.loop-x-preserved
loop-x-preserved c = (
  c.loop-x.invariant.0,
  omega arith,
  every_turn _ _ _ _ c.loop-x.invariant.2 (rw (c.fits-pass.ensures, c.from.ensures)),
)
