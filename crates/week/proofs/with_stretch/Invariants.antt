-- `week::with_stretch` meets its contract: the hours of the stretch are marked one after another.
use Prim.Native.Nat.{◌≤◌, max}
use Rattle.week.proofs.WeekLaws.{Marked}
use Rattle.week.proofs.with_stretch.Given as goal

abbrev pub invariant-loop-h : goal.invariant-loop-h
invariant-loop-h l = (l.first ≤ l.h) × (l.h ≤ max l.first l.h-end) × Marked l.initial.marked l.first l.h l.marked
