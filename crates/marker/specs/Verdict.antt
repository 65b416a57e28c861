-- The verdict on a settlement: the first fault in the order of docs/FORMAT.md, its place, and the number of deals looked at.
-- Everywhere i is a grower, j a pilot, d and e deals.
-- Assumes nothing.
use Rattle.std.specs.Prelude.{Option}
use Rattle.std.specs.Prelude.{ℕ, zero, suc, ◌+◌, ◌*◌, ◌-◌, ◌/◌, ◌%◌, Bool, cond, ◌||◌, ltb}
use Rattle.grid.specs.First.{first, by_place}
use Rattle.market.specs.declared.Deal.{Deal}
use Rattle.market.specs.declared.Deal.TheVariants.{Tariff, Free}
use Rattle.market.specs.Market.{Ticket, Settlement, cap, used_by_grower, used_by_pilot, earned_by_grower, earned_by_pilot}
use Rattle.market.specs.Totals.{promised_worth}
use Rattle.verdicts.specs.declared.Verdict.{Verdict}
use Rattle.verdicts.specs.declared.Verdict.TheVariants.{Sound, TariffOverCap, FreeOverCap, WrongPay}
use Rattle.verdicts.specs.declared.Verdict.TheVariants.{GrowerOverHours, PilotOverHours, Idle, Blocks}
use Rattle.verdicts.specs.Tests.{pay_test, pair_test, idle_test, cheapest_spare, blocks_test}

-- Walks.

-- the pair at place i * m + j
abbrev pub by_pair : {A : Type 0} → (ℕ → ℕ → A) → ℕ → ℕ → A
by_pair g m p = g (p / m) (p % m)

-- the deal at place 2 * (i * m + j) + d, and its d
abbrev pub deal_at : ℕ → Deal
deal_at zero = Tariff
deal_at (suc d) = Free

abbrev pub deal_number : Deal → ℕ
deal_number Tariff = 0
deal_number Free = 1

-- a walk over k places: the verdict of the first at which the test holds, else what comes after
abbrev pub walk : (ℕ → Bool) → ℕ → (ℕ → Verdict) → Verdict → Verdict
walk test k found after = cond (ltb (first test k) k) (found (first test k)) after

-- how many pairs there are
abbrev pub pairs : Ticket → ℕ
pairs t = t.growers * t.pilots

module _ (t : Ticket) (x : Settlement) where
  abbrev pub over_cap : Deal → ℕ → ℕ → Bool
  over_cap d i j = ltb (cap t d i j) (x.hours d i j)

  abbrev pub wrong_pay : ℕ → ℕ → Bool
  wrong_pay i j = pay_test (t.joint_gain i j) (x.hours Free i j) (x.pay i j)

  abbrev pub wrong_pair : ℕ → ℕ → Bool
  wrong_pair i j = pair_test (x.hours Tariff i j) (t.tariff_cap i j) (x.hours Free i j) (t.free_cap i j) (x.pay i j) (t.joint_gain i j)

  abbrev pub grower_over : ℕ → Bool
  grower_over i = ltb (t.grower_hours i) (used_by_grower t x.hours i)

  abbrev pub pilot_over : ℕ → Bool
  pilot_over j = ltb (t.pilot_hours j) (used_by_pilot t x.hours j)

  -- somebody's free hours
  abbrev pub free_of_grower : ℕ → ℕ
  free_of_grower i = t.grower_hours i - used_by_grower t x.hours i

  abbrev pub free_of_pilot : ℕ → ℕ
  free_of_pilot j = t.pilot_hours j - used_by_pilot t x.hours j

  -- somebody's cheapest spare for the deal d of i and j
  abbrev pub grower_spare : Deal → ℕ → ℕ → Option ℕ
  grower_spare d i j =
      cheapest_spare (free_of_grower i) (t.grower_standby i) (λ e l. x.hours e i l) (λ e l. earned_by_grower t x e i l) t.pilots d j

  abbrev pub pilot_spare : Deal → ℕ → ℕ → Option ℕ
  pilot_spare d i j =
      cheapest_spare (free_of_pilot j) (t.pilot_standby j) (λ e k. x.hours e k j) (λ e k. earned_by_pilot t x e k j) t.growers d i

  abbrev pub idle : Deal → ℕ → ℕ → Bool
  idle d i j = idle_test (x.hours d i j) (cap t d i j) (free_of_grower i) (free_of_pilot j)

  abbrev pub blocks : Deal → ℕ → ℕ → Bool
  blocks d i j =
      blocks_test d (x.hours d i j) (cap t d i j) (grower_spare d i j) (pilot_spare d i j)
      (t.tariff_gain i j) (t.tariff_pay i j) (t.joint_gain i j)

  abbrev pub wrong_deal : Deal → ℕ → ℕ → Bool
  wrong_deal d i j = idle d i j || blocks d i j

  -- the verdict on a wrong pair: 2, else 3, else 4
  abbrev pub pair_verdict : ℕ → ℕ → Verdict
  pair_verdict i j = cond (over_cap Tariff i j) (TariffOverCap i j) (cond (over_cap Free i j) (FreeOverCap i j) (WrongPay i j))

  -- the verdict on a wrong deal, with its count: 7, else 8
  abbrev pub deal_verdict : ℕ → ℕ → ℕ → Deal → Verdict
  deal_verdict count i j d = cond (idle d i j) (Idle i j d count) (Blocks i j d count)

  abbrev pub pair_fault_at : ℕ → Bool
  pair_fault_at = by_pair wrong_pair t.pilots

  abbrev pub deal_fault_at : ℕ → Bool
  deal_fault_at = by_place (λ i j d. wrong_deal (deal_at d) i j) t.pilots

  abbrev pub deal_verdict_at : ℕ → Verdict
  deal_verdict_at p = deal_verdict (p + 1) (p / 2 / t.pilots) (p / 2 % t.pilots) (deal_at (p % 2))

  -- the last walk: deals pair by pair, tariff before free; a sound settlement has this worth
  abbrev pub deals_judged : ℕ → Verdict
  deals_judged worth = walk deal_fault_at (2 * pairs t) deal_verdict_at (Sound (2 * pairs t) worth)

  -- growers over their hours, then pilots
  abbrev pub hours_judged : ℕ → Verdict
  hours_judged worth = walk grower_over t.growers GrowerOverHours (walk pilot_over t.pilots PilotOverHours (deals_judged worth))

  -- all four walks: pairs first
  abbrev pub judged : Verdict
  judged = walk pair_fault_at (pairs t) (by_pair pair_verdict t.pilots) (hours_judged (promised_worth t x.hours))
