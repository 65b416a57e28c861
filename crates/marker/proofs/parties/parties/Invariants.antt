-- `marker::parties` meets its contract: one party after another, each of his rows.
use Prim.Native.Nat.{◌-◌, ◌≤◌}
use mathlib.Core.Path.{◌≡◌}
use Rattle.grid.proofs.Sixteens.{Made}
use Rattle.marker.specs.Tables.{nobody, party_at}
use Rattle.marker.proofs.parties.parties.Given as goal

abbrev pub invariant-loop-p : goal.invariant-loop-p
invariant-loop-p l = (l.p ≤ l.count) ×
    Made nobody (λ k q. q ≡ party_at l.hours l.tariff_hours l.free_deal_hours l.earned l.share l.partners k) l.p l.all
