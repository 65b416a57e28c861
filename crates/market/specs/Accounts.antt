-- What a settlement brings everybody, and what its hours are worth.
-- Assumes nothing.
use Rattle.std.specs.Prelude.{ℕ, ◌+◌, ◌*◌}
use Rattle.grid.specs.Sum.{sum_square}
use Rattle.market.specs.declared.Deal.TheVariants.{Tariff, Free}
use Rattle.market.specs.Market.{DealHours, Ticket, Settlement, sum_deals, earned_by_grower, earned_by_pilot}

module _ (t : Ticket) where
  -- what a grower gains over all pilots, and what a pilot is paid over all growers
  abbrev pub grower_gain : Settlement → ℕ → ℕ
  grower_gain x i = sum_deals (λ d j. x.hours d i j * earned_by_grower t x d i j) t.pilots

  abbrev pub pilot_pay : Settlement → ℕ → ℕ
  pilot_pay x j = sum_deals (λ d i. x.hours d i j * earned_by_pilot t x d i j) t.growers

  -- an hour by the tariff is worth the gain and the pay, an hour of a free deal the joint gain
  abbrev pub worth_of_hours : DealHours → ℕ
  worth_of_hours h =
      sum_square (λ i j. h Tariff i j * (t.tariff_gain i j + t.tariff_pay i j) + h Free i j * t.joint_gain i j) t.growers t.pilots
