-- What is found of a pair and of a deal, from their numbers: the verdict on a fault, or nothing. Everywhere i is a grower, j a pilot, d
-- a deal.
-- Assumes nothing.
use Rattle.std.specs.Prelude.{None, Option, Some}
use Rattle.std.specs.Prelude.{ℕ, Bool, true, false, cond, ◌||◌, ltb}
use Rattle.market.specs.declared.Deal.{Deal}
use Rattle.verdicts.specs.declared.Verdict.{Verdict}
use Rattle.verdicts.specs.declared.Verdict.TheVariants.{TariffOverCap, FreeOverCap, WrongPay, Idle, Blocks}
use Rattle.verdicts.specs.Tests.{pair_test, idle_test, blocks_test}

-- the verdict on a fault, if there is one
abbrev pub found_if : Bool → Verdict → Option Verdict
found_if true v = Some v
found_if false v = None

-- of a wrong pair: 2, else 3, else 4
abbrev pub pair_fault : ℕ → ℕ → ℕ → ℕ → ℕ → ℕ → ℕ → ℕ → Option Verdict
pair_fault i j tariff_hours tariff_cap free_deal_hours free_cap pay joint_gain =
    found_if (pair_test tariff_hours tariff_cap free_deal_hours free_cap pay joint_gain)
    (cond (ltb tariff_cap tariff_hours) (TariffOverCap i j) (cond (ltb free_cap free_deal_hours) (FreeOverCap i j) (WrongPay i j)))

-- of a wrong deal, with its count: 7, else 8
abbrev pub deal_fault : ℕ → ℕ → Deal → ℕ → ℕ → ℕ → ℕ → ℕ → Option ℕ → Option ℕ → ℕ → ℕ → ℕ → Option Verdict
deal_fault i j d count hours cap free_of_grower free_of_pilot of_grower of_pilot gain pay joint_gain =
    found_if (idle_test hours cap free_of_grower free_of_pilot || blocks_test d hours cap of_grower of_pilot gain pay joint_gain)
    (cond (idle_test hours cap free_of_grower free_of_pilot) (Idle i j d count) (Blocks i j d count))
