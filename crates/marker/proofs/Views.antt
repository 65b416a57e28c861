-- Parties in market's terms: what the tests on them say of the ticket and the settlement that they come from.
-- Assumes nothing.
use Prim.Native.Nat.{ℕ, ◌+◌, ◌*◌, ◌<◌}
use mathlib.Core.Path.{◌≡◌, refl, ap₂}
use mathlib.Core.List.{List}
use lib.Dec.{ltb}
use lib.ListN.{get_or}
use Rattle.grid.specs.Grid.{Grid, at}
use Rattle.grid.specs.First.{first}
use Rattle.market.specs.declared.Deal.{Deal}
use Rattle.market.specs.declared.Deal.TheVariants.{Tariff, Free}
use Rattle.market.specs.Market.{cap}
use Rattle.market.specs.Tables.{by_deal}
use Rattle.verdicts.specs.Faults.{found_if}
use Rattle.verdicts.proofs.Spares.{spare_same}
use Rattle.marker.specs.declared.Party.{Party}
use Rattle.marker.specs.Verdict.{grower_over, pilot_over, grower_spare, pilot_spare, wrong_deal, deal_number, deal_verdict}
use Rattle.marker.specs.Tables.{nobody, is_over, spare_in, deal_found, Origin, ticket_from, settlement_from}
use Rattle.marker.proofs.Walks.{first-same}

module _ {n m : ℕ} {growers pilots : List Party} {tariff_cap free_cap joint_gain : Grid}
    (o : Origin n m growers pilots tariff_cap free_cap joint_gain) where
  -- the walks over parties who may be over their hours
  pub first-grower : first (λ p. is_over (get_or growers p nobody)) n ≡ first (grower_over (ticket_from o) (settlement_from o)) n
  first-grower = first-same _ _ n (λ i hi. ap₂ ltb (o.grower i hi).owns (o.grower i hi).used)

  pub first-pilot : first (λ p. is_over (get_or pilots p nobody)) m ≡ first (pilot_over (ticket_from o) (settlement_from o)) m
  first-pilot = first-same _ _ m (λ j hj. ap₂ ltb (o.pilot j hj).owns (o.pilot j hj).used)

  module _ (i j : ℕ) (hi : i < n) (hj : j < m) where
    cap_is : (d : Deal) → by_deal (at tariff_cap i j) (at free_cap i j) d ≡ cap (ticket_from o) d i j
    cap_is Tariff = refl
    cap_is Free = refl

    grower_spare_lem : (d : Deal) → spare_in (get_or growers i nobody) m d j ≡ grower_spare (ticket_from o) (settlement_from o) d i j
    grower_spare_lem d = let g = o.grower i hi in spare_same _ _ 0 0 m m _ _ _ _ d j g.unused refl refl g.hours g.earned

    pilot_spare_lem : (d : Deal) → spare_in (get_or pilots j nobody) n d i ≡ pilot_spare (ticket_from o) (settlement_from o) d i j
    pilot_spare_lem d = let p = o.pilot j hj in spare_same _ _ 0 0 n n _ _ _ _ d i p.unused refl refl p.hours p.earned

    -- what is found of a deal by its parties and its pair's cells
    pub deal_found_is : (d : Deal) →
        deal_found d (get_or growers i nobody) (get_or pilots j nobody) n m i j (by_deal (at tariff_cap i j) (at free_cap i j) d) (at joint_gain i j)
        ≡ found_if (wrong_deal (ticket_from o) (settlement_from o) d i j)
        (deal_verdict (ticket_from o) (settlement_from o) (2 * (i * m + j) + deal_number d + 1) i j d)
    deal_found_is d = rw (
      grower_spare_lem d,
      pilot_spare_lem d,
      (o.grower i hi).hours d j hj,
      cap_is d,
      (o.grower i hi).unused,
      (o.pilot j hj).unused,
      (o.grower i hi).earned Tariff j hj,
      (o.pilot j hj).earned Tariff i hi,
    )
