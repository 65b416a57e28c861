-- A reply on paper: its refusal number and its count. Every contract that answers with a reply uses these values.
use Rattle.std.specs.Prelude.{Result, Ok, Err}
use Rattle.checks.specs.declared.refusals.Refusal.{Refusal}
use Rattle.checks.specs.Refusals.{number_of}
use Rattle.std.specs.Prelude.{ℕ, ◌≡◌}

-- The refusal is 0 where there is none, and the count is 0 where there is a refusal.
pub record Values : Type 0 where
  pub refusal : ℕ
  pub count : ℕ

abbrev pub refused_with : ℕ → Values
refused_with why = record { refusal = why; count = 0 }

abbrev pub done_with : ℕ → Values
done_with count = record { refusal = 0; count = count }

-- The values of each case.
abbrev pub reply_values : Result ℕ Refusal → Values
reply_values (Err why) = refused_with (number_of why)
reply_values (Ok count) = done_with count

-- The reply is the one that is due, and so are its values.
pub record Replied (r due : Result ℕ Refusal) (on_paper : Values) : Type 0 where
  pub reply : r ≡ due
  pub values : reply_values r ≡ on_paper

-- A refusal with a number, and an operation done with a count.
abbrev pub Refuses : Result ℕ Refusal → Refusal → Type 0
Refuses r why = Replied r (Err why) (refused_with (number_of why))

abbrev pub Counts : Result ℕ Refusal → ℕ → Type 0
Counts r count = Replied r (Ok count) (done_with count)
