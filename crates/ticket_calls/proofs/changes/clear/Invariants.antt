-- `ticket_calls::changes::clear` meets its contract: the pairs are cleared one after another.
use Prim.Native.Nat.{◌-◌, ◌≤◌}
use mathlib.Core.Path.{◌≡◌}
use Rattle.ticket_calls.specs.Calls.{cleared}
use Rattle.ticket_calls.proofs.changes.clear.Given as goal

abbrev pub invariant-loop-k : goal.invariant-loop-k
invariant-loop-k l = (l.k ≤ l.count) × (l.ticket ≡ cleared l.party l.k l.initial.ticket)
