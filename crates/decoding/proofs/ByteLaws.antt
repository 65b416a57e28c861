-- Bytes that are numbers and nothing else, byte by byte.
use mathlib.Core.Path.{◌≡◌, refl}
use mathlib.Core.Bool.{true}
use mathlib.Core.List.{List, [], ◌∷◌}
use Prim.Native.Nat.{ℕ, ◌≤◌, ◌<◌}
use borrow.Author.Tests.{lt-ltb, le-ltb, ltb-true}
use lib.Dec.{ltb}
use Rattle.grid.proofs.EveryLaws.{both_hold}
use Rattle.decoding.specs.Numbered.{follows, joined, numbered_after, numbers_after}

-- The numbers of a byte that ends one and of a byte that does not, and of no byte.
pub last_byte : (prior b : ℕ) (rest : List ℕ) → b < 128 → numbers_after prior (b ∷ rest) ≡ joined prior b ∷ numbers_after b rest
unfolding numbers_after
last_byte prior b rest h = rw (lt-ltb b 128 h)

pub first_byte : (prior b : ℕ) (rest : List ℕ) → 128 ≤ b → numbers_after prior (b ∷ rest) ≡ numbers_after b rest
unfolding numbers_after
first_byte prior b rest h = rw (le-ltb b 128 h)

pub none_left : (prior : ℕ) → numbers_after prior [] ≡ []
unfolding numbers_after
none_left prior = refl

-- Each byte may follow the one before it, and the last ends a number.
pub numbered_rest : (prior b : ℕ) (rest : List ℕ) → numbered_after prior (b ∷ rest) ≡ true →
    (follows prior b ≡ true) × (numbered_after b rest ≡ true)
unfolding numbered_after
numbered_rest prior b rest e = both_hold (follows prior b) (numbered_after b rest) e

pub numbered_none : (prior : ℕ) → numbered_after prior [] ≡ true → ltb prior 128 ≡ true
unfolding numbered_after
numbered_none prior e = e

-- After a byte with its top bit set comes a last byte, which is not 0.
pub follows-last : (a b : ℕ) → 128 ≤ a → follows a b ≡ true → (0 < b) × (b < 128)
follows-last a b h e =
    let t = both_hold (ltb 0 b) (ltb b 128) (rw (le-ltb a 128 h) at e) in (ltb-true 0 b t.0, ltb-true b 128 t.1)
