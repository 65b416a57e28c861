-- The search for the first one that is faulty.
-- Assumes nothing.
use mathlib.Core.Path.{◌≡◌, sym, ◌∙◌}
use mathlib.Core.Bool.{Bool, true, false}
use mathlib.Core.List.{List}
use Prim.Native.Nat.{ℕ, ◌+◌, ◌≤◌, ◌<◌}
use native.Mathlib.Numerals.{add-one}
use native.Mathlib.Omega.{arith}
use lib.ListN.{length, take}
use Rattle.grid.specs.First.{NoneBefore}
use Rattle.grid.proofs.FirstPlaces.{none_more, none_le, first_is}
use Rattle.checks.specs.declared.refusals.Document.{Document}
use Rattle.places.specs.Places.{faulty, faulty_at, place_in}

-- A beginning of k + 1 numbers was tried, with the answer b.
tried : (p : Document) (l front : List ℕ) (k : ℕ) (b : Bool) → front ≡ take (k + 1) l → b ≡ faulty p front → faulty_at p l k ≡ b
tried p l front k b e f = rw (← add-one k, ← e) (sym f)

module _ (p : Document) (l front : List ℕ) (k : ℕ) (b : Bool) (e : front ≡ take (k + 1) l) (f : b ≡ faulty p front)
    (before : NoneBefore (faulty_at p l) k) where
  pub found : k < length l → b ≡ true → k ≡ place_in p l
  found h t = sym (first_is (faulty_at p l) (length l) k (omega arith) before (λ _. tried p l front k b e f ∙ t))

  pub not_there : b ≡ false → NoneBefore (faulty_at p l) (k + 1)
  not_there t = none_more (faulty_at p l) k before (tried p l front k b e f ∙ t)

pub nowhere : (p : Document) (l : List ℕ) (k : ℕ) → NoneBefore (faulty_at p l) k → length l ≤ k → length l ≡ place_in p l
nowhere p l k before h =
    sym (first_is (faulty_at p l) (length l) (length l) (omega arith) (none_le (faulty_at p l) k (length l) before h)
    (λ x. absurd (omega arith)))
