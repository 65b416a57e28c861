-- Settlements by the growers and pilots that C names, which are any two numbers.
-- Assumes nothing.
use Rattle.std.specs.Prelude.{Err}
use Rattle.std.specs.Prelude.{ℕ, Bool, cond, ◌&&◌, leb}
use Rattle.checks.specs.declared.refusals.Refusal.{Refusal}
use Rattle.reader.specs.Walk.{Outcome}

-- No ticket has more than 16 growers or pilots.
abbrev pub in_ticket : ℕ → ℕ → Bool
in_ticket n m = leb n 16 && leb m 16

-- Of so many there is no settlement, whatever is read; so no count is taken for a refusal.
abbrev pub of_ticket : ℕ → ℕ → Outcome → Outcome
of_ticket n m o = cond (in_ticket n m) o (Err Refusal.OtherParties)
