-- The refusals of docs/FORMAT.md and their numbers. The code has the same in src/refusals.rt, and is proved to.
use Rattle.std.specs.Prelude.{Bool, true, false, ℕ, eqb, Result, Ok, Err}
use Rattle.checks.specs.declared.refusals.Document.{Document}
use Rattle.checks.specs.declared.refusals.Refusal.{Refusal}
use Rattle.checks.specs.declared.refusals.Refusals.{Refusals}

abbrev pub number_of : Refusal → ℕ
number_of Refusal.Ends = 1
number_of Refusal.TooLong = 2
number_of Refusal.Padded = 3
number_of Refusal.WrongKind = 4
number_of Refusal.PartiesOutOfRange = 5
number_of Refusal.HoursAboveLimit = 6
number_of Refusal.AboveLimit = 7
number_of Refusal.AmountWithoutCap = 8
number_of Refusal.NumbersLeft = 9
number_of Refusal.NoRoom = 10
number_of Refusal.SettlementEnds = 11
number_of Refusal.SettlementTooLong = 12
number_of Refusal.SettlementPadded = 13
number_of Refusal.SettlementWrongKind = 14
number_of Refusal.OtherParties = 15
number_of Refusal.SettlementNumbersLeft = 16
number_of Refusal.NotSound = 17
number_of Refusal.CapWithoutHours = 18
number_of Refusal.NoParty = 19
number_of Refusal.AgainstLimits = 20
number_of Refusal.NotWindows = 21
number_of Refusal.BadWindow = 22

-- Two refusals are one where their numbers are.
abbrev pub same : Refusal → Refusal → Bool
same w v = eqb (number_of w) (number_of v)

abbrev pub ticket_refusals : Refusals
ticket_refusals = record {
  ends = Refusal.Ends;
  long = Refusal.TooLong;
  padded = Refusal.Padded;
  kind = Refusal.WrongKind;
  parties = Refusal.PartiesOutOfRange;
  left = Refusal.NumbersLeft;
}

abbrev pub settlement_refusals : Refusals
settlement_refusals = record {
  ends = Refusal.SettlementEnds;
  long = Refusal.SettlementTooLong;
  padded = Refusal.SettlementPadded;
  kind = Refusal.SettlementWrongKind;
  parties = Refusal.OtherParties;
  left = Refusal.SettlementNumbersLeft;
}

abbrev pub refusals_of : Document → Refusals
refusals_of Document.Ticket = ticket_refusals
refusals_of (Document.Settlement n m) = settlement_refusals

-- What is looked at passes, or is refused.
abbrev pub Checked : Type 0
Checked = Result Unit Refusal

-- The error w unless the test holds.
abbrev pub must : {E : Type 0} → Bool → E → Result Unit E
must true w = Ok tt
must false w = Err w

-- The first of two refusals that is one.
abbrev pub first : Checked → Checked → Checked
first (Ok _) w = w
first (Err v) w = Err v

-- What comes of it where nothing is refused.
abbrev pub giving : {A : Type 0} → Checked → A → Result A Refusal
giving (Ok _) a = Ok a
giving (Err w) a = Err w
