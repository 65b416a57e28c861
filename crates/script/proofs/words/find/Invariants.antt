-- `script::words::find` meets its contract: its loop stays within the text.
use Prim.Native.Nat.{◌-◌, ◌≤◌}
use Rattle.script.proofs.words.find.Given as goal

abbrev pub invariant-loop-k : goal.invariant-loop-k
invariant-loop-k l = l.k ≤ l.k-end
