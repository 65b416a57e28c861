-- `certificate::parties::least_earned` meets its contract: the least so far is known.
use mathlib.Core.Path.{sym}
use Rattle.certificate.proofs.LeastLaws.{least_none, least_turn}
use borrow.Author.Rules.{rules}
use Rattle.certificate.proofs.parties.least_earned.Goals as goal

pub loop-l-init : goal.loop-l-init
loop-l-init c = (search rules, sym (least_none _ _ _ _))

pub loop-l-preserved : goal.loop-l-preserved
loop-l-preserved c = let l = c.loop-l in (
  search rules,
  rw (c.min-least.ensures, c.min.ensures)
      (least_turn _ _ _ _ l.l _ _ _ l.invariant.1 c.worth_of-by_tariff.ensures c.worth_of-in_free_deal.ensures),
)
