-- `verdicts::cheapest` meets its contract: the spares of the partners so far are counted in, by `cheapest_turn`.
use mathlib.Core.Path.{◌≡◌}
use Prim.Native.Nat.{◌-◌, ◌≤◌}
use Rattle.verdicts.specs.Tests.{cheapest_of, lines}
use Rattle.verdicts.proofs.cheap_spares.cheapest.Given as goal

abbrev pub invariant-loop-l : goal.invariant-loop-l
invariant-loop-l l = (l.l ≤ l.count) ×
    (l.best ≡ cheapest_of l.initial.best (lines l.tariff l.free) (lines l.earned l.share) l.l)
