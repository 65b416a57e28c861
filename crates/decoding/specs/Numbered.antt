-- Bytes that are numbers of at most two groups, and nothing else: which bytes are, and the numbers that they are.
use Rattle.std.specs.Prelude.{Bool, cond, ◌||◌, ◌&&◌, List, [], ◌∷◌, ℕ, ◌+◌, ◌-◌, ◌*◌, ◌/◌, ◌%◌, leb, ltb, length}

-- Of two bytes side by side, where a number has at most two groups: whether the second may follow the first, how many numbers it ends,
-- and which.
abbrev pub follows : ℕ → ℕ → Bool
follows before b = ltb before 128 || ltb 0 b && ltb b 128

abbrev pub ended : ℕ → ℕ
ended b = 1 - b / 128

abbrev pub joined : ℕ → ℕ → ℕ
joined before b = cond (ltb before 128) b (before % 128 + 128 * b)

-- Of bytes after the byte `before`: each may follow the one before it, and the last ends a number; and the numbers that are ended.
unfoldable pub numbered_after : ℕ → List ℕ → Bool
numbered_after before [] = ltb before 128
numbered_after before (b ∷ s) = follows before b && numbered_after b s

unfoldable pub numbers_after : ℕ → List ℕ → List ℕ
numbers_after before [] = []
numbers_after before (b ∷ s) = let more = numbers_after b s in cond (ltb b 128) (joined before b ∷ more) more

-- What bytes are decoded to: the numbers, where the bytes are numbers and nothing else and there is room for as many numbers as bytes; else
-- nothing. Before the first byte stands 0, which ends a number.
abbrev pub decoded_as : List ℕ → ℕ → List ℕ
decoded_as s room = cond (leb (length s) room && numbered_after 0 s) (numbers_after 0 s) []
