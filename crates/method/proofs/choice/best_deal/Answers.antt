-- `method::choice::best_deal` meets its contract.
use native.Mathlib.Omega.{arith}
use Rattle.method.proofs.GreatestDeals.{peak_new, peak_old}
use borrow.Author.Rules.{rules}
use Rattle.method.proofs.choice.best_deal.Goals as goal
use Rattle.method.proofs.choice.best_deal.Goals.{then-top-chance, else-top-chance}

pub loop-j-preserved : goal.loop-j-preserved
loop-j-preserved c = let v = c.loop-j.invariant in
    let e = c.greater_chance-chance.ensures in
    elim c.if-top-chance.branch [
      | then-top-chance w ↦ rw (w.top-is, w.pilot-is) (search rules, omega arith, peak_new _ _ _ _ _ e w.if-top-chance.true v.2)
      | else-top-chance w ↦ rw (w.top-is, w.pilot-is) (search rules, v.1, peak_old _ _ _ _ _ e w.if-top-chance.false v.2)
    ]
