-- The account of a ticket's bytes and a settlement's: what each grower gains, then pilot by pilot what he is paid and the commission on
-- it. What marking refuses is refused with the same number, and then a settlement that is not sound.
-- Assumes nothing.
use Rattle.std.specs.Prelude.{Result, Ok, Err}
use Rattle.std.specs.Prelude.{ℕ, zero, suc, ◌+◌, ◌*◌, ◌-◌, List, [], ◌∷◌, ◌++◌, length, get_or, replicate}
use Rattle.market.specs.Market.{Ticket, Settlement}
use Rattle.market.specs.Accounts.{grower_gain, pilot_pay}
use Rattle.commission.specs.Bands.{commission}
use Rattle.checks.specs.declared.refusals.Refusal.{Refusal}
use Rattle.checks.specs.Refusals.{number_of}
use Rattle.reader.specs.Walk.{Outcome}
use Rattle.reader.specs.Values.{Values, refused_with, done_with}
use Rattle.reader.specs.Answer.{unpacked, settlement_read}
use Rattle.verdicts.specs.declared.Verdict.{Verdict}
use Rattle.verdicts.specs.declared.Verdict.TheVariants.{Refused, Sound, TariffOverCap, FreeOverCap, WrongPay}
use Rattle.verdicts.specs.declared.Verdict.TheVariants.{GrowerOverHours, PilotOverHours, Idle, Blocks}
use Rattle.tables.specs.View.{growers_of, pilots_of, ticket_of, settlement_of}
use Rattle.marker.specs.Marked.{marked}
use Rattle.accounts.specs.declared.listing.Account.{Account}

-- Amounts are in euros, the bands of the commission in cents.
abbrev pub cents_of : ℕ → ℕ
cents_of euros = 100 * euros

-- The numbers of an account.

-- those of the first k of its parties, one party after another
unfoldable pub each : (ℕ → List ℕ) → ℕ → List ℕ
each f zero = []
each f (suc k) = each f k ++ f k

-- what is listed of a grower, and of a pilot
abbrev pub gain_listed : ℕ → List ℕ
gain_listed gain = gain ∷ []

abbrev pub pay_listed : ℕ → List ℕ
pay_listed pay = pay ∷ commission (cents_of pay) ∷ []

abbrev pub account_numbers : Ticket → Settlement → List ℕ
account_numbers t x = each (λ i. gain_listed (grower_gain t x i)) t.growers ++ each (λ j. pay_listed (pilot_pay t x j)) t.pilots

-- where a gain and a pay stand among them, of so many growers
abbrev pub gain_at : List ℕ → ℕ → ℕ
gain_at list i = get_or list i 0

abbrev pub pay_at : List ℕ → ℕ → ℕ → ℕ
pay_at list growers j = get_or list (growers + 2 * j) 0

-- The account. It has room for 16 growers and 16 pilots, and zeros where nothing is listed.

abbrev pub places : ℕ
places = 48

abbrev pub padded : List ℕ → List ℕ
padded xs = xs ++ replicate (places - length xs) 0

-- the account that lists them
abbrev pub listing : List ℕ → Account
listing xs = record { count = length xs; list = padded xs }

-- the numbers of an outcome, none where it is a refusal
abbrev pub numbers_in : Outcome → List ℕ
numbers_in (Err w) = []
numbers_in (Ok xs) = xs

-- of the numbers, or of a refusal
abbrev pub account_in : Outcome → Result Account Refusal
account_in (Err w) = Err w
account_in (Ok xs) = Ok (listing xs)

-- the same on paper
abbrev pub account_values : Result Account Refusal → Values
account_values (Err w) = refused_with (number_of w)
account_values (Ok account) = done_with account.count

abbrev pub values_in : Outcome → Values
values_in (Err w) = refused_with (number_of w)
values_in (Ok xs) = done_with (length xs)

-- The numbers xs if the verdict on the settlement is sound.
abbrev pub outcome_by : Verdict → List ℕ → Outcome
outcome_by (Refused why) xs = Err why
outcome_by (Sound count worth) xs = Ok xs
outcome_by (TariffOverCap i j) xs = Err Refusal.NotSound
outcome_by (FreeOverCap i j) xs = Err Refusal.NotSound
outcome_by (WrongPay i j) xs = Err Refusal.NotSound
outcome_by (GrowerOverHours i) xs = Err Refusal.NotSound
outcome_by (PilotOverHours j) xs = Err Refusal.NotSound
outcome_by (Idle i j d count) xs = Err Refusal.NotSound
outcome_by (Blocks i j d count) xs = Err Refusal.NotSound

-- From files.

abbrev pub ticket_numbers : List ℕ → List ℕ
ticket_numbers ticket = numbers_in (unpacked ticket)

abbrev pub settlement_numbers : List ℕ → List ℕ → List ℕ
settlement_numbers ticket settlement =
    numbers_in (settlement_read (growers_of (ticket_numbers ticket)) (pilots_of (ticket_numbers ticket)) settlement)

abbrev pub account_outcome : List ℕ → List ℕ → Outcome
account_outcome ticket settlement =
    outcome_by (marked ticket settlement)
    (account_numbers (ticket_of (ticket_numbers ticket)) (settlement_of (settlement_numbers ticket settlement)))

abbrev pub accounted : List ℕ → List ℕ → Result Account Refusal
accounted ticket settlement = account_in (account_outcome ticket settlement)

abbrev pub accounted_values : List ℕ → List ℕ → Values
accounted_values ticket settlement = values_in (account_outcome ticket settlement)
