-- `sheets::lines::amounts` meets its contract: after k turns the numbers that are left, written here, make the line.
use Prim.Native.Nat.{◌≤◌, ◌-◌}
use Rattle.ascii.proofs.LineLaws.{Lining}
use Rattle.sheets.proofs.lines.amounts.Given as goal

abbrev pub invariant-loop-k : goal.invariant-loop-k
invariant-loop-k l = (l.k ≤ l.k-end) × Lining l.initial.page l.page l.at l.here l.numbers l.k
