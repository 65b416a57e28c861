-- `windows::pairs::narrow_pairs` meets its contract: the pairs are narrowed grower by grower.
use Prim.Native.Nat.{ℕ, ◌+◌, ◌*◌, ◌-◌, ◌≤◌}
use mathlib.Core.List.{List}
use Rattle.tables.specs.View.{ticket_front}
use Rattle.windows.proofs.Narrowing.{PairsIn}
use Rattle.windows.proofs.pairs.narrow_pairs.Given as goal

abbrev pub invariant-loop-j : goal.invariant-loop-j
invariant-loop-j l = (l.j ≤ l.pilots)
    × ((xs : List ℕ) → PairsIn l.windows xs l.growers l.pilots (l.i * l.pilots) l.initial.ticket → PairsIn l.windows xs l.growers l.pilots (l.i * l.pilots + l.j) l.ticket)

abbrev pub invariant-loop-i : goal.invariant-loop-i
invariant-loop-i l = (l.i ≤ l.growers) × PairsIn l.windows (ticket_front l.initial.ticket) l.growers l.pilots (l.i * l.pilots) l.ticket
