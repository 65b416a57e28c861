-- `certificate::parties::least_earned` meets its contract: the least so far is known.
use Prim.Native.Nat.{◌-◌, ◌≤◌}
use mathlib.Core.Path.{◌≡◌}
use Rattle.certificate.specs.Rows.{least_in}
use Rattle.certificate.proofs.parties.least_earned.Given as goal

abbrev pub invariant-loop-l : goal.invariant-loop-l
invariant-loop-l l = (l.l ≤ l.partners) × (l.least ≡ least_in l.tariff l.earned l.free l.share l.l)
