-- `method::turns::run` meets its contract. What a turn does is said by the laws of `TurnSteps`, and what holds between turns by those of
-- `Rounds`; here they get the facts that the code's places know.
use Prim.Native.Nat.{◌≤◌}
use mathlib.Core.Path.{◌≡◌}
use Rattle.method.specs.View.{line, ticket}
use Rattle.method.proofs.LateSearch.{NoneLate}
use Rattle.method.proofs.Rounds.{Working, left}
use Rattle.method.proofs.turns.run.Given as goal

abbrev pub invariant-turns : goal.invariant-turns
invariant-turns l = Working (ticket l.fn.sides.growers l.fn.sides.pilots l.grower_hours l.initial.free l.terms) l.price l.held l.free l.i l.k

abbrev pub decreases-turns : goal.decreases-turns
decreases-turns l = left (ticket l.fn.sides.growers l.fn.sides.pilots l.grower_hours l.initial.free l.terms) l.price l.held l.k

abbrev pub invariant-loop-giver : goal.invariant-loop-giver
invariant-loop-giver l = (l.held ≡ l.initial.held) × (l.giver ≤ l.fn.sides.growers) × NoneLate l.terms (line l.price l.j) l.initial.held l.j l.giver
