-- `lists::text::walk` meets its contract: after k turns the bytes that are left, read from here on, make the whole text.
use Prim.Native.Nat.{◌≤◌}
use mathlib.Core.Path.{◌≡◌}
use lib.ListN.{length}
use Rattle.lists.proofs.NumberLaws.{Reading}
use Rattle.lists.proofs.text.walk.Given as goal

abbrev pub invariant-loop-b : goal.invariant-loop-b
invariant-loop-b l = (l.b-index-end ≡ length l.text) × (l.b-index ≤ length l.text) × Reading l.text l.initial.list l.list l.mode l.passed l.count l.b-index
