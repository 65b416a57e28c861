-- `script::operation::letters` is safe and ends: its loop stays within the word.
use Prim.Native.Nat.{◌-◌, ◌≤◌}
use Rattle.script.proofs.operation.letters.Given as goal

abbrev pub invariant-loop-k : goal.invariant-loop-k
invariant-loop-k l = l.k ≤ l.k-end
