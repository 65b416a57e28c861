-- `script::words::without_words` is safe and ends: the words that are left get fewer.
use Prim.Native.Nat.{◌-◌, ◌≤◌}
use Rattle.script.proofs.words.without_words.Given as goal

abbrev pub invariant-loop-k : goal.invariant-loop-k
invariant-loop-k l = l.initial._k ≤ l._k
