-- `tables::row` meets its contract: the row is filled number by number.
use Prim.Native.Nat.{◌+◌, ◌≤◌}
use lib.ListN.{get_or}
use Rattle.grid.specs.Fill.{FilledRow}
use Rattle.tables.proofs.quantities.row.Given as goal

abbrev pub invariant-loop-i : goal.invariant-loop-i
invariant-loop-i l = (l.i ≤ l.end) × FilledRow (λ k. get_or l.list (l.from + k) 0) l.i l.r
