-- `sheets::lines::amounts` meets its contract: after k turns the numbers that are left, written here, make the line.
use mathlib.Core.Path.{refl}
use native.Mathlib.Omega.{arith}
use Rattle.ascii.proofs.LineLaws.{lining_turns}
use Rattle.sheets.proofs.lines.amounts.Goals as goal

pub loop-k-preserved : goal.loop-k-preserved
loop-k-preserved c = let i = c.loop-k in
    (omega arith, lining_turns i.invariant.1 _ _ _ _ (omega arith) refl c.separator_at.ensures c.field-here.ensures)
