-- Short lines and the calls that they are, computed from the definitions.
-- Assumes nothing.
use mathlib.Core.Path.{◌≡◌, refl}
use mathlib.Core.List.{[], ◌∷◌}
use Rattle.desk_calls.specs.declared.call.Call.TheVariants.{Hours, Pair, Free}
use Rattle.desk_calls.specs.declared.call.Fault.TheVariants.{NoSuchCall, WordCount, NoHours, NoNumber}
use Rattle.std.specs.Prelude.{Some, None, Ok, Err}
use Rattle.tables.specs.declared.Side.TheVariants.{Growers, Pilots}
use Rattle.desk_calls.specs.Words.{word}
use Rattle.desk_calls.specs.Numbers.{with_digits}
use Rattle.desk_calls.specs.Calls.{call_of}

-- a carriage return alone
pub empty_line : call_of (13 ∷ []) ≡ Ok None
unfolding word with_digits
empty_line = refl

-- ` grower 1  hours 07`
pub grower-hours : call_of (32 ∷ 103 ∷ 114 ∷ 111 ∷ 119 ∷ 101 ∷ 114 ∷ 32 ∷ 49 ∷ 32 ∷ 32 ∷ 104 ∷ 111 ∷ 117 ∷ 114 ∷ 115 ∷ 32 ∷ 48 ∷ 55 ∷ []) ≡ Ok (Some (Hours Growers 1 7))
unfolding word with_digits
grower-hours = refl

-- `pilot 65535 hours 0` and a carriage return
pub pilot-hours : call_of (112 ∷ 105 ∷ 108 ∷ 111 ∷ 116 ∷ 32 ∷ 54 ∷ 53 ∷ 53 ∷ 51 ∷ 53 ∷ 32 ∷ 104 ∷ 111 ∷ 117 ∷ 114 ∷ 115 ∷ 32 ∷ 48 ∷ 13 ∷ []) ≡ Ok (Some (Hours Pilots 65535 0))
unfolding word with_digits
pilot-hours = refl

-- `pair 1 2 3 4 5 6 7`
pub pair_terms : call_of (112 ∷ 97 ∷ 105 ∷ 114 ∷ 32 ∷ 49 ∷ 32 ∷ 50 ∷ 32 ∷ 51 ∷ 32 ∷ 52 ∷ 32 ∷ 53 ∷ 32 ∷ 54 ∷ 32 ∷ 55 ∷ []) ≡ Ok (Some (Pair 1 2 record { tariff_cap = 3; tariff_gain = 4; tariff_pay = 5; free_cap = 6; joint_gain = 7 }))
unfolding word with_digits
pair_terms = refl

-- `free ` and a carriage return
pub free-hours : call_of (102 ∷ 114 ∷ 101 ∷ 101 ∷ 32 ∷ 13 ∷ []) ≡ Ok (Some Free)
unfolding word with_digits
free-hours = refl

-- `pilot 0 hours 65536`
pub too_large : call_of (112 ∷ 105 ∷ 108 ∷ 111 ∷ 116 ∷ 32 ∷ 48 ∷ 32 ∷ 104 ∷ 111 ∷ 117 ∷ 114 ∷ 115 ∷ 32 ∷ 54 ∷ 53 ∷ 53 ∷ 51 ∷ 54 ∷ []) ≡ Err NoNumber
unfolding word with_digits
too_large = refl

-- `pilot 0 hours -1`
pub no_digit : call_of (112 ∷ 105 ∷ 108 ∷ 111 ∷ 116 ∷ 32 ∷ 48 ∷ 32 ∷ 104 ∷ 111 ∷ 117 ∷ 114 ∷ 115 ∷ 32 ∷ 45 ∷ 49 ∷ []) ≡ Err NoNumber
unfolding word with_digits
no_digit = refl

-- `grower 1 hours`
pub word_missing : call_of (103 ∷ 114 ∷ 111 ∷ 119 ∷ 101 ∷ 114 ∷ 32 ∷ 49 ∷ 32 ∷ 104 ∷ 111 ∷ 117 ∷ 114 ∷ 115 ∷ []) ≡ Err WordCount
unfolding word with_digits
word_missing = refl

-- `sheet 1`
pub word_too_many : call_of (115 ∷ 104 ∷ 101 ∷ 101 ∷ 116 ∷ 32 ∷ 49 ∷ []) ≡ Err WordCount
unfolding word with_digits
word_too_many = refl

-- `free x`
pub free-word_too_many : call_of (102 ∷ 114 ∷ 101 ∷ 101 ∷ 32 ∷ 120 ∷ []) ≡ Err WordCount
unfolding word with_digits
free-word_too_many = refl

-- `grower 1 for 2`
pub other_word : call_of (103 ∷ 114 ∷ 111 ∷ 119 ∷ 101 ∷ 114 ∷ 32 ∷ 49 ∷ 32 ∷ 102 ∷ 111 ∷ 114 ∷ 32 ∷ 50 ∷ []) ≡ Err NoHours
unfolding word with_digits
other_word = refl

-- `Sheet`
pub other_call : call_of (83 ∷ 104 ∷ 101 ∷ 101 ∷ 116 ∷ []) ≡ Err NoSuchCall
unfolding word with_digits
other_call = refl
