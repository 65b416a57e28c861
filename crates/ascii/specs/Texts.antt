-- The bytes of a text of ASCII characters.
-- Assumes nothing.
use Rattle.std.specs.Prelude.{ℕ, List, [], ◌∷◌}
use Prim.Native.Char.{code}
use Prim.Native.String.{String, [] as empty, ◌∷◌ as ◌then◌}

abbrev pub codes : String → List ℕ
codes empty = []
codes (c then s) = code c ∷ codes s
