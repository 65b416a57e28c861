-- Numbers as groups of seven bits, low group first: the top bit of a byte says that another follows. For any number of groups g.
use Rattle.std.specs.Prelude.{cond, List, [], ◌∷◌, ◌++◌, ℕ, zero, suc, ◌+◌, ◌-◌, ◌*◌, ◌/◌, ◌%◌, ◌<◌, ltb, length, get_or}
use Rattle.groups.specs.declared.Got.{Got}

-- What reading a number finds: its value and what is left, or why there is none.
pub data Read : Type 0 where
  Number : ℕ → List ℕ → Read
  Ends TooLong Padded : Read

-- The number that starts with the group v, where what r read weighs w.
abbrev pub raise : ℕ → ℕ → Read → Read
raise v w (Number y rest) = Number (v + w * y) rest
raise v w Ends = Ends
raise v w TooLong = TooLong
raise v w Padded = Padded

-- At most g groups, whose last is at least `least`: no byte where g is spent is looked at.
unfoldable pub read_from : ℕ → ℕ → List ℕ → Read
read_from zero least bytes = TooLong
read_from (suc g) least [] = Ends
read_from (suc g) least (b ∷ bytes) =
    cond (ltb b 128) (cond (ltb b least) Padded (Number b bytes)) (raise (b % 128) 128 (read_from g 1 bytes))

-- A number of at most g groups. Its first byte may be 00, a last byte after it may not.
abbrev pub read_groups : ℕ → List ℕ → Read
read_groups g bytes = read_from g 0 bytes

-- The shortest form; x itself bounds the number of its groups.
unfoldable pub groups_in : ℕ → ℕ → List ℕ
groups_in zero x = x ∷ []
groups_in (suc k) x = let more = groups_in k (x / 128) in cond (ltb x 128) (x ∷ []) ((128 + x % 128) ∷ more)

unfoldable pub encode : ℕ → List ℕ
encode x = groups_in x x

-- The bytes of a list of numbers.
abbrev pub pack : List ℕ → List ℕ
pack [] = []
pack (x ∷ xs) = encode x ++ pack xs

-- Every number is a byte.
abbrev pub Bytes : List ℕ → Type 0
Bytes bytes = (i : ℕ) → get_or bytes i 0 < 256

-- The most groups of a number in a file, and the number that a file's bytes start with.
abbrev pub groups : ℕ
groups = 2

abbrev pub bytes : List ℕ → Read
bytes s = read_groups groups s

-- What was read of the end of n bytes, with the place after the number.
abbrev pub placed : ℕ → Read → Got
placed n (Number x rest) = Got.Number x (n - length rest)
placed n Ends = Got.Ends
placed n TooLong = Got.TooLong
placed n Padded = Got.Padded
