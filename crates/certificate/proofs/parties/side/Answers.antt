-- `certificate::parties::side` meets its contract: one party after another, each of his rows.
use mathlib.Core.Path.{sym}
use native.Mathlib.Omega.{arith}
use Rattle.grid.proofs.Sixteens.{made_start, made_put}
use Rattle.grid.proofs.EveryLaws.{every-none, every_turn}
use borrow.Author.Rules.{rules}
use Rattle.certificate.proofs.parties.side.Goals as goal

pub loop-p-init : goal.loop-p-init
loop-p-init c = (
  search rules,
  sym (every-none _),
  made_start _ _ _ c.zero_row-unused.ensures.0.long,
  made_start _ _ _ c.zero_row-least.ensures.0.long,
)

pub loop-p-preserved : goal.loop-p-preserved
loop-p-preserved c = let l = c.loop-p in (
  search rules,
  every_turn _ _ _ _ l.invariant.1 (rw (c.used-total.ensures, c.from.ensures)),
  made_put _ _ _ _ _ (omega arith) (rw (c.left-hours.ensures, c.used-total.ensures)) l.invariant.2,
  made_put _ _ _ _ _ (omega arith)
      (rw (c.least_of.ensures, c.least_earned-lowest.ensures, c.left-hours.ensures, c.used-total.ensures)) l.invariant.3,
)
