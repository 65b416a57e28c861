-- The ticket: the field that stands at each place, the state after a number there, and how many numbers there are.
use Rattle.std.specs.Prelude.{Bool, cond, ℕ, zero, suc, ◌+◌, ◌-◌, ◌*◌, ◌/◌, ◌%◌, ltb}
use Rattle.checks.specs.declared.ticket.Field.{Field}
use Rattle.checks.specs.declared.ticket.Field.TheVariants.{Kind, Growers, Pilots, Hours, TariffCap, TariffGain, TariffPay, FreeCap}
use Rattle.checks.specs.declared.ticket.Field.TheVariants.{FreeGain}
use Rattle.documents.specs.declared.State.{State}
use Rattle.checks.specs.Hours.{noted, none_of}
use Rattle.checks.specs.Refusals.{Checked}
use Rattle.checks.specs.TicketFaults.{fault_of}
use Rattle.documents.specs.State.{passed, with_parties, with_hours, with_cap}

-- The five numbers of a pair.
abbrev pub deal_field : ℕ → Field
deal_field zero = TariffCap
deal_field (suc zero) = TariffGain
deal_field (suc (suc zero)) = TariffPay
deal_field (suc (suc (suc zero))) = FreeCap
deal_field (suc (suc (suc (suc k)))) = FreeGain

-- How many numbers stand between the first three and the pairs: everybody's hours.
abbrev pub before_pairs : ℕ → ℕ → ℕ
before_pairs n m = n + m

-- The field at a place of a ticket with n growers and m pilots: kind, n, m, everybody's hours, then the pairs.
abbrev pub place_field : ℕ → ℕ → ℕ → Field
place_field n m zero = Kind
place_field n m (suc zero) = Growers
place_field n m (suc (suc zero)) = Pilots
place_field n m (suc (suc (suc p))) = cond (ltb p (n + m)) Hours (deal_field ((p - before_pairs n m) % 5))

abbrev pub field_of : State → Field
field_of s = place_field s.growers s.pilots s.place

-- The pair at a state's place, and whether its grower or its pilot has no hours.
abbrev pub pair_at : State → ℕ
pair_at s = (s.place - 3 - before_pairs s.growers s.pilots) / 5

abbrev pub none_at : State → Bool
none_at s = none_of s.without s.growers s.pilots (pair_at s)

-- It is found at the first number of a pair, and kept for the others.
abbrev pub none_for : Field → State → Bool
none_for TariffCap s = none_at s
none_for Kind s = s.none
none_for Growers s = s.none
none_for Pilots s = s.none
none_for Hours s = s.none
none_for TariffGain s = s.none
none_for TariffPay s = s.none
none_for FreeCap s = s.none
none_for FreeGain s = s.none

-- The state after x in a field.
abbrev pub after_of : Field → State → ℕ → State
after_of Kind s x = passed s
after_of Growers s x = with_parties s x s.pilots
after_of Pilots s x = with_parties s s.growers x
after_of Hours s x = with_hours s (noted s.without x)
after_of TariffCap s x = with_cap s (none_at s) x
after_of TariffGain s x = passed s
after_of TariffPay s x = passed s
after_of FreeCap s x = with_cap s s.none x
after_of FreeGain s x = passed s

abbrev pub ticket_fault : State → ℕ → Checked
ticket_fault s x = fault_of (field_of s) s.cap (none_for (field_of s) s) x

abbrev pub ticket_after : State → ℕ → State
ticket_after s x = after_of (field_of s) s x

-- The numbers after n and m: everybody's hours, and five for each pair.
abbrev pub ticket_body : State → ℕ
ticket_body s = before_pairs s.growers s.pilots + 5 * (s.growers * s.pilots)
