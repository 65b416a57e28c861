-- `certificate::pairs::row_kept` meets its contract: the pairs so far are all kept, or not.
use mathlib.Core.Path.{sym}
use Rattle.grid.proofs.EveryLaws.{every-none, every_turn}
use borrow.Author.Rules.{rules}
use Rattle.certificate.proofs.pairs.row_kept.Goals as goal

pub loop-j-init : goal.loop-j-init
loop-j-init c = (search rules, sym (every-none _))

pub loop-j-preserved : goal.loop-j-preserved
loop-j-preserved c = (search rules, every_turn _ _ _ _ c.loop-j.invariant.1 (rw c.pair_kept-this.ensures))
