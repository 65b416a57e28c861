-- `verdicts::cheapest` meets its contract: the spares of the partners so far are counted in, by `cheapest_turn`.
use mathlib.Core.Path.{sym}
use native.Mathlib.Omega.{arith}
use Rattle.verdicts.specs.Tests.{lines}
use Rattle.verdicts.proofs.Spares.{cheapest_none, cheapest_turn}
use borrow.Author.Rules.{rules}
use Rattle.verdicts.proofs.cheap_spares.cheapest.Goals as goal

pub loop-l-init : goal.loop-l-init
loop-l-init c = (omega arith, sym (cheapest_none _ _ _))

pub loop-l-preserved : goal.loop-l-preserved
loop-l-preserved c = (
  search rules,
  cheapest_turn _ _ _ _ (lines c.args.tariff c.args.free) (lines c.args.earned c.args.share) _
      c.loop-l.invariant.1 c.count_in-by_tariff.ensures c.count_in-best.ensures,
)
