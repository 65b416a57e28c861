-- The paper's number and values of each verdict. A refusal has a number of its own. Places that a verdict has no use for are 0, and the
-- deal is then tariff; verdicts 3 and 4 name the free deal. The count is the number of deals looked at in the last walk. Only a sound
-- settlement has a worth.
-- Assumes nothing.
use Rattle.std.specs.Prelude.{ℕ, ◌≤◌, ◌<◌, ◌≡◌, ◌⊎◌}
use Rattle.checks.specs.Refusals.{number_of}
use Rattle.market.specs.declared.Deal.{Deal}
use Rattle.market.specs.declared.Deal.TheVariants.{Tariff, Free}
use Rattle.verdicts.specs.declared.Values.{Values}
use Rattle.verdicts.specs.declared.Verdict.{Verdict}
use Rattle.verdicts.specs.declared.Verdict.TheVariants.{Refused, Sound, TariffOverCap, FreeOverCap, WrongPay}
use Rattle.verdicts.specs.declared.Verdict.TheVariants.{GrowerOverHours, PilotOverHours, Idle, Blocks}

-- of a fault, of a sound settlement, and of a refusal
abbrev pub fault_values : ℕ → ℕ → ℕ → Deal → ℕ → Values
fault_values verdict grower pilot deal count =
    record { refusal = 0; verdict = verdict; grower = grower; pilot = pilot; deal = deal; count = count; worth = 0 }

abbrev pub sound_values : ℕ → ℕ → Values
sound_values count worth = record { refusal = 0; verdict = 1; grower = 0; pilot = 0; deal = Tariff; count = count; worth = worth }

abbrev pub refusal_values : ℕ → Values
refusal_values why = record { refusal = why; verdict = 0; grower = 0; pilot = 0; deal = Tariff; count = 0; worth = 0 }

abbrev pub values_of : Verdict → Values
values_of (Refused why) = refusal_values (number_of why)
values_of (Sound count worth) = sound_values count worth
values_of (TariffOverCap i j) = fault_values 2 i j Tariff 0
values_of (FreeOverCap i j) = fault_values 3 i j Free 0
values_of (WrongPay i j) = fault_values 4 i j Free 0
values_of (GrowerOverHours i) = fault_values 5 i 0 Tariff 0
values_of (PilotOverHours j) = fault_values 6 0 j Tariff 0
values_of (Idle i j d count) = fault_values 7 i j d count
values_of (Blocks i j d count) = fault_values 8 i j d count

-- the number of a verdict, its count and its worth
abbrev pub verdict_number : Verdict → ℕ
verdict_number v = (values_of v).verdict

abbrev pub verdict_count : Verdict → ℕ
verdict_count v = (values_of v).count

abbrev pub verdict_worth : Verdict → ℕ
verdict_worth v = (values_of v).worth

-- the verdicts on a feasible settlement: sound, idle, blocks
abbrev pub FoundFeasible : Verdict → Type 0
FoundFeasible v = (verdict_number v ≡ 1) ⊎ (verdict_number v ≡ 7) ⊎ (verdict_number v ≡ 8)

-- how large the values of a verdict on files may be: at most 16 growers, 16 pilots and 512 deals
pub record Bounded (v : Values) : Type 0 where
  pub verdict : v.verdict ≤ 8
  pub grower : v.grower < 16
  pub pilot : v.pilot < 16
  pub count : v.count ≤ 512

-- 60 hours at 500 euros, with each of 16 growers and each of 16 pilots
abbrev pub most_worth : ℕ
most_worth = 7680000
