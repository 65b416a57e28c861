-- Where nobody has standby, sound is what docs/FORMAT.md says, which has none: what `Sound` says of standby then says nothing.
-- Assumes nothing.
use Prim.Native.Nat.{ℕ}
use mathlib.Core.Logic.Iff
use mathlib.Core.Logic.{◌↔◌}
use native.Mathlib.Omega.{arith}
use Rattle.market.specs.declared.Deal.{Deal}
use Rattle.market.specs.declared.Deal.TheVariants.{Tariff, Free}
use Rattle.market.specs.Market.{Ticket, Settlement, Cheapest, AtLeastStandby, SpareOfGrower, SpareOfPilot, Idle, Blocks, Sound}
use Rattle.market.specs.Market.{free_hour, other_deal}
use Rattle.market.specs.WithoutStandby as paper
use Rattle.market.specs.WithoutStandby.{NoStandby, SoundWithoutStandby}
use Rattle.market.proofs.Gains.{always_welcome}

-- the least of numbers that have a property is the least of those that have another, if the two come to the same
cheapest_alike : {P Q : ℕ → Type 0} → ((w : ℕ) → P w ↔ Q w) → (w : ℕ) → Cheapest P w → Cheapest Q w
cheapest_alike iff w c = ((iff w).0 c.0, λ v q. c.1 v ((iff v).1 q))

module _ (t : Ticket) (x : Settlement) (none : NoStandby t) where
  -- no hour earns less than nothing
  pub at_least_standby : AtLeastStandby t x
  at_least_standby = record {
    grower = λ d i j hi hj h. omega (arith, none.grower i);
    pilot = λ d i j hi hj h. omega (arith, none.pilot j);
  }

  module _ (d : Deal) (i j : ℕ) where
    grower_spare_iff : (w : ℕ) → SpareOfGrower t x d i j w ↔ paper.SpareOfGrower t x d i j w
    grower_spare_iff w = (to, from)
      where
        to : {w : ℕ} → SpareOfGrower t x d i j w → paper.SpareOfGrower t x d i j w
        to (free_hour h) = rw (none.grower i) (paper.free_hour h)
        to (other_deal e l hl ne h) = paper.other_deal e l hl ne h

        from : {w : ℕ} → paper.SpareOfGrower t x d i j w → SpareOfGrower t x d i j w
        from (paper.free_hour h) = let spare : SpareOfGrower t x d i j (t.grower_standby i) = free_hour h in rw (none.grower i) at spare
        from (paper.other_deal e l hl ne h) = other_deal e l hl ne h

    pilot_spare_iff : (w : ℕ) → SpareOfPilot t x d i j w ↔ paper.SpareOfPilot t x d i j w
    pilot_spare_iff w = (to, from)
      where
        to : {w : ℕ} → SpareOfPilot t x d i j w → paper.SpareOfPilot t x d i j w
        to (free_hour h) = rw (none.pilot j) (paper.free_hour h)
        to (other_deal e k hk ne h) = paper.other_deal e k hk ne h

        from : {w : ℕ} → paper.SpareOfPilot t x d i j w → SpareOfPilot t x d i j w
        from (paper.free_hour h) = let spare : SpareOfPilot t x d i j (t.pilot_standby j) = free_hour h in rw (none.pilot j) at spare
        from (paper.other_deal e k hk ne h) = other_deal e k hk ne h

    idle_iff : Idle t x d i j ↔ paper.Idle t x d i j
    idle_iff = (
      λ is. (is.unfilled, is.grower, is.pilot),
      λ is. record {
        unfilled = is.0;
        grower = is.1;
        pilot = is.2;
        welcome = always_welcome t d i j (none.grower i) (none.pilot j);
      },
    )

  blocks_iff : (d : Deal) (i j : ℕ) → Blocks t x d i j ↔ paper.Blocks t x d i j
  blocks_iff Tariff i j = (
    λ (wg, wp, room, g, p, hg, hp). (room, (wg, (grower_spare_iff Tariff i j wg).0 g, hg), (wp, (pilot_spare_iff Tariff i j wp).0 p, hp)),
    λ (room, (wg, g, hg), (wp, p, hp)). (wg, wp, room, (grower_spare_iff Tariff i j wg).1 g, (pilot_spare_iff Tariff i j wp).1 p, hg, hp),
  )
  blocks_iff Free i j = (
    λ (wg, wp, room, g, p, less). (room, (wg, wp, cheapest_alike grower wg g, cheapest_alike pilot wp p, less)),
    λ (room, (wg, wp, g, p, less)).
        (wg, wp, room, cheapest_alike (λ w. Iff.symm (grower w)) wg g, cheapest_alike (λ w. Iff.symm (pilot w)) wp p, less),
  )
    where
      grower : (w : ℕ) → SpareOfGrower t x Free i j w ↔ paper.SpareOfGrower t x Free i j w
      grower = grower_spare_iff Free i j

      pilot : (w : ℕ) → SpareOfPilot t x Free i j w ↔ paper.SpareOfPilot t x Free i j w
      pilot = pilot_spare_iff Free i j

  pub sound_without_standby_iff : Sound t x ↔ SoundWithoutStandby t x
  sound_without_standby_iff = (
    λ s. record {
      feasible = s.feasible;
      nothing_idle = λ d i j hi hj. (Iff.not (idle_iff d i j)).0 (s.nothing_idle d i j hi hj);
      nothing_blocks = λ d i j hi hj. (Iff.not (blocks_iff d i j)).0 (s.nothing_blocks d i j hi hj);
    },
    λ s. record {
      feasible = s.feasible;
      standby = at_least_standby;
      nothing_idle = λ d i j hi hj. (Iff.not (idle_iff d i j)).1 (s.nothing_idle d i j hi hj);
      nothing_blocks = λ d i j hi hj. (Iff.not (blocks_iff d i j)).1 (s.nothing_blocks d i j hi hj);
    },
  )
