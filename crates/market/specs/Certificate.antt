-- A certificate that a settlement is sound: a number for every party that none of his spares is below, and that leaves nothing to gain
-- in any unfilled deal. It does not matter where the numbers come from.
-- Assumes nothing.
use Rattle.std.specs.Prelude.{ℕ, ◌+◌, ◌≤◌, ◌<◌, ◌⊎◌}
use Rattle.market.specs.declared.Deal.{Deal}
use Rattle.market.specs.declared.Deal.TheVariants.{Tariff, Free}
use Rattle.market.specs.Market.{Ticket, Settlement, Feasible, AtLeastStandby, GrowerHasFreeHour, PilotHasFreeHour}
use Rattle.market.specs.Market.{earned_by_grower, earned_by_pilot, Unfilled, Idle}

pub record Certificate (t : Ticket) (x : Settlement) (grower pilot : ℕ → ℕ) : Type 0 where
  pub feasible : Feasible t x
  pub standby : AtLeastStandby t x
  pub nothing_idle : (d : Deal) (i j : ℕ) → i < t.growers → j < t.pilots → ¬ Idle t x d i j
  -- nobody's free hour, and no hour of a deal, is worth less than his number
  pub grower_free : (i : ℕ) → i < t.growers → GrowerHasFreeHour t x i → grower i ≤ t.grower_standby i
  pub grower_hour : (d : Deal) (i j : ℕ) → i < t.growers → j < t.pilots → 0 < x.hours d i j → grower i ≤ earned_by_grower t x d i j
  pub pilot_free : (j : ℕ) → j < t.pilots → PilotHasFreeHour t x j → pilot j ≤ t.pilot_standby j
  pub pilot_hour : (d : Deal) (i j : ℕ) → i < t.growers → j < t.pilots → 0 < x.hours d i j → pilot j ≤ earned_by_pilot t x d i j
  -- an hour more of an unfilled deal brings one of the two no more than his number, or both together no more than theirs
  pub tariff : (i j : ℕ) → i < t.growers → j < t.pilots → Unfilled t x Tariff i j →
      (t.tariff_gain i j ≤ grower i) ⊎ (t.tariff_pay i j ≤ pilot j)
  pub free : (i j : ℕ) → i < t.growers → j < t.pilots → Unfilled t x Free i j → t.joint_gain i j ≤ grower i + pilot j
