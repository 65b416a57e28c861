-- `certificate::pairs::rows_kept` meets its contract: the pairs of the growers so far are all kept, or not.
use mathlib.Core.Path.{sym}
use Rattle.grid.proofs.EveryLaws.{every-none, every_turn}
use borrow.Author.Rules.{rules}
use Rattle.certificate.proofs.pairs.rows_kept.Goals as goal

pub loop-i-init : goal.loop-i-init
loop-i-init c = (search rules, sym (every-none _))

pub loop-i-preserved : goal.loop-i-preserved
loop-i-preserved c = let l = c.loop-i in
    (search rules, every_turn _ _ _ _ l.invariant.1 c.row_kept-kept.ensures)
