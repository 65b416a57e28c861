-- Who has no hours, of the parties whose hours were read: a number in binary, with one digit for each, the last one's last, that is 1 for
-- those without hours. It has 32 digits, as many as a ticket has parties.
use Rattle.std.specs.Prelude.{Bool, cond, ◌||◌, ℕ, suc, ◌+◌, ◌*◌, ◌-◌, ◌/◌, ◌%◌, ◌^◌, List, [], ◌∷◌, eqb, get_or}

-- One party more, and several.
abbrev pub noted : ℕ → ℕ → ℕ
noted without hours = 2 * (without % 2 ^ 31) + cond (eqb hours 0) 1 0

abbrev pub noted_all : ℕ → List ℕ → ℕ
noted_all without [] = without
noted_all without (x ∷ xs) = noted_all (noted without x) xs

-- Whether the party has none whose digit is followed by k others.
abbrev pub has_none : ℕ → ℕ → Bool
has_none without k = eqb (without / 2 ^ k % 2) 1

-- Whether the grower or the pilot of pair q has none, of n growers and m pilots; pairs are counted from 0, grower by grower. A grower's
-- digit is followed by those of the growers after him and of all pilots.
abbrev pub none_of : ℕ → ℕ → ℕ → ℕ → Bool
none_of without n m q = has_none without (n + m - suc (q / m)) || has_none without (m - suc (q % m))

-- The same by everybody's hours, growers first.
abbrev pub none_in : List ℕ → ℕ → ℕ → ℕ → Bool
none_in hours n m q = eqb (get_or hours (q / m) 0) 0 || eqb (get_or hours (n + q % m) 0) 0
