-- What is wrong with a number of a ticket.
use Rattle.std.specs.Prelude.{Bool, cond, ◌&&◌, ℕ, leb, eqb, Ok, Err, is_ok}
use Rattle.checks.specs.declared.ticket.Field.{Field}
use Rattle.checks.specs.declared.ticket.Field.TheVariants.{Kind, Growers, Pilots, Hours, TariffCap, TariffGain, TariffPay, FreeCap}
use Rattle.checks.specs.declared.ticket.Field.TheVariants.{FreeGain}
use Rattle.checks.specs.declared.refusals.Refusal.{Refusal}
use Rattle.checks.specs.Refusals.{ticket_refusals, Checked, must, first}

-- Growers and pilots are 1 to 16.
abbrev pub party_fault : Refusal → ℕ → Checked
party_fault w x = cond (leb 1 x) (must (leb x 16) w) (Err w)

-- In a deal of cap 0 an amount is 0.
abbrev pub zero_cap_fault : ℕ → ℕ → Checked
zero_cap_fault cap x = cond (eqb cap 0) (must (eqb x 0) Refusal.AmountWithoutCap) (Ok tt)

-- An amount is at most 500. The cap is tested after that.
abbrev pub amount_fault : ℕ → ℕ → Checked
amount_fault cap x = first (must (leb x 500) Refusal.AboveLimit) (zero_cap_fault cap x)

-- In a deal of somebody without hours a cap is 0.
abbrev pub no_hours_fault : Bool → ℕ → Checked
no_hours_fault none x = cond none (must (eqb x 0) Refusal.CapWithoutHours) (Ok tt)

-- A cap is at most 60. Hours are tested after that.
abbrev pub cap_fault : Bool → ℕ → Checked
cap_fault none x = first (must (leb x 60) Refusal.AboveLimit) (no_hours_fault none x)

-- What is wrong with x in a field. `cap` is the last cap, and `none` says whether somebody of the pair has no hours.
abbrev pub fault_of : Field → ℕ → Bool → ℕ → Checked
fault_of Kind cap none x = must (eqb x 1) ticket_refusals.kind
fault_of Growers cap none x = party_fault ticket_refusals.parties x
fault_of Pilots cap none x = party_fault ticket_refusals.parties x
fault_of Hours cap none x = must (leb x 60) Refusal.HoursAboveLimit
fault_of TariffCap cap none x = cap_fault none x
fault_of TariffGain cap none x = amount_fault cap x
fault_of TariffPay cap none x = amount_fault cap x
fault_of FreeCap cap none x = cap_fault none x
fault_of FreeGain cap none x = amount_fault cap x

-- Whether the five numbers of a pair, in their order, have no fault.
abbrev pub pair_passes : Bool → ℕ → ℕ → ℕ → ℕ → ℕ → Bool
pair_passes none cap gain pay free joint =
    is_ok (cap_fault none cap)
    && is_ok (amount_fault cap gain)
    && is_ok (amount_fault cap pay)
    && is_ok (cap_fault none free)
    && is_ok (amount_fault free joint)
