-- `method::choice::best_deal` meets its contract.
use Prim.Native.Nat.{◌≤◌, ◌<◌}
use Rattle.method.specs.View.{line, alone, held_by}
use Rattle.method.specs.Choice.{chance}
use Rattle.method.proofs.GreatestDeals.{Peak}
use Rattle.method.proofs.choice.best_deal.Given as goal

abbrev pub invariant-loop-j : goal.invariant-loop-j
invariant-loop-j l = (l.j ≤ l.fn.sides.pilots) × (l.pilot < 16) ×
    Peak (chance (alone l.fn.sides.pilots 0 l.terms) (line l.price) (held_by l.agreed) 0) l.j l.top l.pilot
