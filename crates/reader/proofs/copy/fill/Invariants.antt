-- `reader::copy::fill` meets its contract: the invariant is `Filling`: the numbers that are left come from here, and written from place k
-- on they make the whole. Assumes nothing.
use Prim.Native.Nat.{◌≤◌}
use Rattle.reader.specs.Steps.{first_numbers}
use Rattle.reader.proofs.Filling.{Filling}
use Rattle.reader.proofs.copy.fill.Given as goal

abbrev pub invariant-loop-k : goal.invariant-loop-k
invariant-loop-k l = (l.k ≤ l.count) × Filling l.s l.initial.list l.list (first_numbers l.count l.s) l.here l.k
