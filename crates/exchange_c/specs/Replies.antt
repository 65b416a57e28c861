-- The number that C gets for a reply, and the reply that a number stands for.
-- Assumes nothing.
use Rattle.std.specs.Prelude.{Result, Ok, Err}
use Rattle.checks.specs.declared.refusals.Refusal.{Refusal}
use Rattle.std.specs.Prelude.{ℕ, ◌+◌, ◌-◌, ◌<◌, ◌≡◌, List, [], ◌∷◌, cond, ltb, get_or}
use Rattle.checks.specs.Refusals.{number_of}

-- A count or a length as it is, refusal k as 65536 + k.
abbrev pub reply_number : Result ℕ Refusal → ℕ
reply_number (Err why) = 65536 + number_of why
reply_number (Ok count) = count

-- The refusals in the order of their numbers, which begin with 1.
abbrev pub refusals : List Refusal
refusals =
    Refusal.Ends ∷ Refusal.TooLong ∷ Refusal.Padded ∷ Refusal.WrongKind ∷ Refusal.PartiesOutOfRange ∷ Refusal.HoursAboveLimit
    ∷ Refusal.AboveLimit ∷ Refusal.AmountWithoutCap ∷ Refusal.NumbersLeft ∷ Refusal.NoRoom ∷ Refusal.SettlementEnds
    ∷ Refusal.SettlementTooLong ∷ Refusal.SettlementPadded ∷ Refusal.SettlementWrongKind ∷ Refusal.OtherParties
    ∷ Refusal.SettlementNumbersLeft ∷ Refusal.NotSound ∷ Refusal.CapWithoutHours ∷ Refusal.NoParty ∷ Refusal.AgainstLimits
    ∷ Refusal.NotWindows ∷ Refusal.BadWindow ∷ []

-- How C reads it.
abbrev pub reply_of : ℕ → Result ℕ Refusal
reply_of number = cond (ltb number 65536) (Ok number) (Err (get_or refusals (number - 65537) Refusal.BadWindow))

-- A count that cannot be taken for a refusal.
abbrev pub Small : Result ℕ Refusal → Type 0
Small (Err why) = Unit {0}
Small (Ok count) = count < 65536

-- The number of some reply that a contract allows. Which settlement is written is free, and with it the length.
pub record NumberOf (Allowed : Result ℕ Refusal → Type 0) (number : ℕ) : Type 0 where
  pub reply : Result ℕ Refusal
  pub allowed : Allowed reply
  pub same : number ≡ reply_number reply
