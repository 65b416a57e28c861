-- `desk_calls::split::word` meets its contract: after k turns the word asked for is that many places nearer.
use mathlib.Core.Path.{◌≡◌}
use Prim.Native.Nat.{◌-◌, ◌≤◌}
use Rattle.desk_calls.specs.Words.{word}
use Rattle.desk_calls.proofs.split.word.Given as goal

abbrev pub invariant-loop-k : goal.invariant-loop-k
invariant-loop-k l = (l._k ≤ l.place) × (word l.rest (l.place - l._k) ≡ word l.line l.place)
