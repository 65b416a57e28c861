-- `passing::pairs_pass` meets its contract: whether the rows that were looked at pass. Assumes nothing.
use mathlib.Core.Path.{sym}
use native.Mathlib.Omega.{arith}
use Rattle.grid.proofs.Places.{row_next}
use Rattle.grid.proofs.EveryLaws.{every-none, every_turn}
use Rattle.passing.proofs.pairs_pass.Goals as goal

pub loop-i-init : goal.loop-i-init
loop-i-init c = (omega arith, omega arith, sym (every-none _))

pub loop-i-preserved : goal.loop-i-preserved
loop-i-preserved c = let i = c.loop-i.invariant in (
  omega arith,
  omega (arith, row_next c.loop-i.i c.args.pilots),
  every_turn _ _ _ _ i.2 (rw i.1 at c.row_passes-pass.ensures),
)
