-- `method::grower_limits::row_slack` meets its contract.
use Prim.Native.Nat.{◌≤◌}
use Rattle.method.specs.View.{line, alone, held_by}
use Rattle.method.specs.Jumps.{among, WorthAtLeast, OffersAtMost, TariffsBear}
use Rattle.method.proofs.grower_limits.row_slack.Given as goal

abbrev pub invariant-loop-j : goal.invariant-loop-j
invariant-loop-j l = (l.j ≤ l.fn.sides.pilots) × (l.paid ≤ l.bound) ×
    TariffsBear (alone l.fn.sides.pilots 0 l.terms) (among l.marks) (line l.price) (held_by l.agreed) 0 l.j l.paid ×
    WorthAtLeast (alone l.fn.sides.pilots 0 l.terms) (among l.marks) (line l.price) (held_by l.agreed) 0 l.j l.low ×
    OffersAtMost (alone l.fn.sides.pilots 0 l.terms) (among l.marks) (line l.price) (held_by l.agreed) 0 l.j l.top
