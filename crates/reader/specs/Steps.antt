-- What the private functions take and leave.
use Rattle.std.specs.Prelude.{◌≡◌, List, [], ◌∷◌, ℕ, zero, suc, ◌<◌, length, get_or}
use Rattle.groups.specs.Groups.{Read, Number, Ends, TooLong, Padded, bytes}
use Rattle.documents.specs.Walk.{Gives}

-- More bytes than the numbers of any document take.
abbrev pub most_bytes : ℕ
most_bytes = 4294967296

-- The first k numbers of bytes, as many as can be read.
abbrev pub number_then : Read → (List ℕ → List ℕ) → List ℕ
number_then (Number x rest) go = x ∷ go rest
number_then Ends go = []
number_then TooLong go = []
number_then Padded go = []

unfoldable pub first_numbers : ℕ → List ℕ → List ℕ
first_numbers zero s = []
first_numbers (suc k) s = number_then (bytes s) (λ rest. first_numbers k rest)

-- Bytes that are `count` numbers of 16 bits and nothing more.
pub record Fillable (s : List ℕ) (count : ℕ) : Type 0 where
  pub long : length (first_numbers count s) ≡ count
  pub gives : Gives bytes s (first_numbers count s) []
  pub words : (i : ℕ) → get_or (first_numbers count s) i 0 < 65536
