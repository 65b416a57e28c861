-- The call that a line is.
-- Assumes nothing.
use Rattle.std.specs.Prelude.{ℕ, ◌+◌, Bool, Option, Some, None, Result, Ok, Err, cond, not, ◌&&◌, List, [], ◌∷◌}
use Rattle.std.specs.Str.{bytes_eq}
use Rattle.tables.specs.declared.Side.{Side}
use Rattle.tables.specs.declared.Side.TheVariants.{Growers, Pilots}
use Rattle.desk_calls.specs.declared.call.Call.{Call}
use Rattle.desk_calls.specs.declared.call.Call.TheVariants.{Hours, Pair, Sheet, Free, Ticket, Save, Help}
use Rattle.desk_calls.specs.declared.call.Fault.{Fault}
use Rattle.desk_calls.specs.declared.call.Fault.TheVariants.{NoSuchCall, WordCount, NoHours, NoNumber}
use Rattle.desk_calls.specs.Words.{word}
use Rattle.desk_calls.specs.Numbers.{number_of}

-- the words of the calls, as bytes
abbrev pub grower : List ℕ
grower = 103 ∷ 114 ∷ 111 ∷ 119 ∷ 101 ∷ 114 ∷ []

abbrev pub pilot : List ℕ
pilot = 112 ∷ 105 ∷ 108 ∷ 111 ∷ 116 ∷ []

abbrev pub hours : List ℕ
hours = 104 ∷ 111 ∷ 117 ∷ 114 ∷ 115 ∷ []

abbrev pub pair : List ℕ
pair = 112 ∷ 97 ∷ 105 ∷ 114 ∷ []

abbrev pub sheet : List ℕ
sheet = 115 ∷ 104 ∷ 101 ∷ 101 ∷ 116 ∷ []

abbrev pub free : List ℕ
free = 102 ∷ 114 ∷ 101 ∷ 101 ∷ []

abbrev pub ticket : List ℕ
ticket = 116 ∷ 105 ∷ 99 ∷ 107 ∷ 101 ∷ 116 ∷ []

abbrev pub save : List ℕ
save = 115 ∷ 97 ∷ 118 ∷ 101 ∷ []

abbrev pub help : List ℕ
help = 104 ∷ 101 ∷ 108 ∷ 112 ∷ []

-- a call, or why a line is none
abbrev pub Asked : Type 0
Asked = Result Call Fault

-- whether the word at a place is the last of its line
abbrev pub is_last : List ℕ → ℕ → Bool
is_last line place = not (bytes_eq (word line place) []) && bytes_eq (word line (place + 1)) []

-- a call, if it is
abbrev pub ending : List ℕ → ℕ → Asked → Asked
ending line place call = cond (is_last line place) call (Err WordCount)

-- the number that the word at a place of a line spells
abbrev pub told : Option ℕ → Result ℕ Fault
told None = Err NoNumber
told (Some value) = Ok value

abbrev pub numeral_at : List ℕ → ℕ → Result ℕ Fault
numeral_at line place = told (number_of (word line place))

-- what goes on with a number, if it is one
abbrev pub with : Result ℕ Fault → (ℕ → Asked) → Asked
with (Err fault) go = Err fault
with (Ok value) go = go value

-- somebody's hours, if both are numbers
abbrev pub hours_if : List ℕ → Side → Asked
hours_if line side = with (numeral_at line 1) (λ party. with (numeral_at line 3) (λ h. Ok (Hours side party h)))

abbrev pub hours_call : List ℕ → Side → Asked
hours_call line side = cond (bytes_eq (word line 2) hours) (hours_if line side) (Err NoHours)

-- a pair and its terms, if all are numbers
abbrev pub pair_call : List ℕ → Asked
pair_call line =
    with (numeral_at line 1) (λ i. with (numeral_at line 2) (λ j.
    with (numeral_at line 3) (λ cap. with (numeral_at line 4) (λ a. with (numeral_at line 5) (λ b.
    with (numeral_at line 6) (λ free. with (numeral_at line 7) (λ c.
    Ok (Pair i j record { tariff_cap = cap; tariff_gain = a; tariff_pay = b; free_cap = free; joint_gain = c }))))))))

-- a call that changes nothing, by its first word
abbrev pub plain_call : List ℕ → List ℕ → Asked
plain_call name line =
    cond (bytes_eq name sheet) (ending line 0 (Ok Sheet))
    (cond (bytes_eq name free) (ending line 0 (Ok Free))
    (cond (bytes_eq name ticket) (ending line 0 (Ok Ticket))
    (cond (bytes_eq name save) (ending line 2 (Ok Save))
    (cond (bytes_eq name help) (ending line 0 (Ok Help)) (Err NoSuchCall)))))

-- any call, by its first word
abbrev pub named_call : List ℕ → List ℕ → Asked
named_call name line =
    cond (bytes_eq name grower) (ending line 3 (hours_call line Growers))
    (cond (bytes_eq name pilot) (ending line 3 (hours_call line Pilots))
    (cond (bytes_eq name pair) (ending line 7 (pair_call line)) (plain_call name line)))

-- a line without words asks for nothing
abbrev pub something : Asked → Result (Option Call) Fault
something (Err fault) = Err fault
something (Ok call) = Ok (Some call)

abbrev pub call_of : List ℕ → Result (Option Call) Fault
call_of line = cond (bytes_eq (word line 0) []) (Ok None) (something (named_call (word line 0) line))
