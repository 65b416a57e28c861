-- `passing::row_passes` meets its contract: whether the pairs that were looked at pass. Assumes nothing.
use mathlib.Core.Path.{sym}
use native.Mathlib.Omega.{arith}
use Rattle.grid.proofs.EveryLaws.{every-none, every_turn}
use Rattle.passing.proofs.row_passes.Goals as goal

pub loop-j-init : goal.loop-j-init
loop-j-init c = (omega arith, omega arith, sym (every-none _))

pub loop-j-preserved : goal.loop-j-preserved
loop-j-preserved c = let i = c.loop-j.invariant in (
  omega arith,
  omega arith,
  every_turn _ _ _ _ i.2 (rw (← i.1) c.pair_at-pass.ensures),
)
