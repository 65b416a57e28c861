-- `week::common` meets its contract: the hours of both are counted one after another.
use Prim.Native.Nat.{ℕ, ◌≤◌}
use mathlib.Core.Bool.{Bool, false, ◌&&◌}
use mathlib.Core.List.{List}
use mathlib.Core.Path.{◌≡◌}
use lib.ListN.{get_or, length}
use Rattle.week.proofs.WeekLaws.{count_to}
use Rattle.week.proofs.common.Given as goal

-- whether an hour is marked in both
abbrev pub both : List Bool → List Bool → ℕ → Bool
both a b x = get_or a x false && get_or b x false

abbrev pub invariant-loop-one : goal.invariant-loop-one
invariant-loop-one l = (length l.yielded ≤ 168) × (l.count ≡ count_to (both l.a l.b) (length l.yielded))
