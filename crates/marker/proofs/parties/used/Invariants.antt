-- `marker::used` meets its contract: the hours so far are summed, each below 65536.
use mathlib.Core.Path.{◌≡◌}
use Prim.Native.Nat.{◌*◌, ◌-◌, ◌≤◌}
use Rattle.marker.specs.Tables.{used_in}
use Rattle.marker.proofs.parties.used.Given as goal

abbrev pub invariant-loop-l : goal.invariant-loop-l
invariant-loop-l l = (l.l ≤ l.partners) × (l.total ≤ 131070 * l.l) × (l.total ≡ used_in l.tariff l.free l.l)
