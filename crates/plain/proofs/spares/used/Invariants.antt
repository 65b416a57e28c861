use Prim.Native.Nat.{◌-◌, ◌*◌, ◌≤◌}
use Rattle.plain.proofs.spares.used.Given as goal

abbrev pub invariant-loop-deal : goal.invariant-loop-deal
invariant-loop-deal l = (l.deal ≤ l.deal-end) × (l.sum ≤ 255 * l.deal)
