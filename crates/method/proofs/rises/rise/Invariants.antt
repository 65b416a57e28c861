-- `method::rises::rise` meets its contract.
use Prim.Native.Nat.{◌≤◌, ◌<◌}
use mathlib.Core.List.{[]}
use Rattle.method.specs.View.{line, ticket, held_in}
use Rattle.method.specs.Jumps.{among, GrowersBear}
use Rattle.method.proofs.rises.rise.Given as goal

abbrev pub invariant-loop-step : goal.invariant-loop-step
invariant-loop-step l = (0 < l.fn.sides.growers → l.i < l.fn.sides.growers) × (l.same ≤ 16) × (l.step ≤ 256)

abbrev pub invariant-loop-k : goal.invariant-loop-k
invariant-loop-k l = (l.k ≤ l.fn.sides.growers) × (l.by ≤ l.initial.by) × GrowersBear (ticket l.fn.sides.growers l.fn.sides.pilots [] [] l.terms) (among l.marks) (line l.price) (held_in l.held) l.k l.by
