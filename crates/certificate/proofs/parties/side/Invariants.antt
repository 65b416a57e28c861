-- `certificate::parties::side` meets its contract: one party after another, each of his rows.
use Prim.Native.Nat.{◌-◌, ◌≤◌}
use mathlib.Core.Path.{◌≡◌}
use mathlib.Core.List.{[]}
use lib.Dec.{leb}
use lib.ListN.{get_or}
use Rattle.grid.proofs.Sixteens.{Made}
use Rattle.grid.specs.Every.{every}
use Rattle.certificate.specs.Rows.{line, used_in, party_at}
use Rattle.certificate.proofs.parties.side.Given as goal

abbrev pub invariant-loop-p : goal.invariant-loop-p
invariant-loop-p l = (l.p ≤ l.count) × (l.fits ≡ every (λ k. leb (used_in (get_or l.tariff k []) (get_or l.free k []) l.partners) (line l.own k)) l.p) ×
    Made 0 (λ k v. v ≡ (party_at l.partners l.own l.standby l.tariff l.earned l.free l.share k).free) l.p l.unused ×
    Made 0 (λ k v. v ≡ (party_at l.partners l.own l.standby l.tariff l.earned l.free l.share k).least) l.p l.least
