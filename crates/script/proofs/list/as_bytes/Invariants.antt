-- `script::list::as_bytes` is safe and ends: its loop stays within the list.
use Prim.Native.Nat.{◌-◌, ◌≤◌}
use Rattle.script.proofs.list.as_bytes.Given as goal

abbrev pub invariant-loop-k : goal.invariant-loop-k
invariant-loop-k l = l.k ≤ 2200
