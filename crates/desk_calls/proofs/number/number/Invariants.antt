-- `desk_calls::number::number` meets its contract: after k turns the digits that are left, put after those so far, make the whole number.
use mathlib.Core.Path.{◌≡◌}
use Prim.Native.Nat.{◌≤◌}
use lib.ListN.{length, drop}
use Rattle.desk_calls.specs.Numbers.{with_digits}
use Rattle.desk_calls.proofs.number.number.Given as goal

abbrev pub invariant-loop-b : goal.invariant-loop-b
invariant-loop-b l =
    (l.b-index-end ≡ length l.word) × (l.b-index ≤ length l.word) × (with_digits l.value (drop l.b-index l.word) ≡ with_digits 0 l.word)
