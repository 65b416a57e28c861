-- What has a certificate is sound.
-- Assumes nothing.
use Prim.Native.Nat.{ℕ, ◌≤◌, ◌<◌}
use mathlib.Core.Logic.{⊎_elim}
use native.Mathlib.Omega.{arith}
use Rattle.market.specs.declared.Deal.{Deal}
use Rattle.market.specs.declared.Deal.TheVariants.{Tariff, Free}
use Rattle.market.specs.Market.{Ticket, Settlement, SpareOfGrower, SpareOfPilot, free_hour, other_deal, NothingBlocks, Sound}
use Rattle.market.specs.Certificate.{Certificate}

module _ {t : Ticket} {x : Settlement} {grower pilot : ℕ → ℕ} (c : Certificate t x grower pilot) where
  -- no spare is worth less than its owner's number
  spare_of_grower : {d : Deal} {i j w : ℕ} → i < t.growers → SpareOfGrower t x d i j w → grower i ≤ w
  spare_of_grower {i} hi (free_hour h) = c.grower_free i hi h
  spare_of_grower {i} hi (other_deal e l hl ne h) = c.grower_hour e i l hi hl h

  spare_of_pilot : {d : Deal} {i j w : ℕ} → j < t.pilots → SpareOfPilot t x d i j w → pilot j ≤ w
  spare_of_pilot {j} hj (free_hour h) = c.pilot_free j hj h
  spare_of_pilot {j} hj (other_deal e k hk ne h) = c.pilot_hour e k j hk hj h

  nothing_blocks_lem : NothingBlocks t x
  nothing_blocks_lem Tariff i j hi hj b = ⊎_elim
      (λ low. omega (arith, spare_of_grower hi b.3))
      (λ low. omega (arith, spare_of_pilot hj b.4))
      (c.tariff i j hi hj b.2)
  nothing_blocks_lem Free i j hi hj b =
      omega (arith, c.free i j hi hj b.2, spare_of_grower hi b.3.0, spare_of_pilot hj b.4.0)

  pub certificate_sound : Sound t x
  certificate_sound = record {
    feasible = c.feasible;
    standby = c.standby;
    nothing_idle = c.nothing_idle;
    nothing_blocks = nothing_blocks_lem;
  }
