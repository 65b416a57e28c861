-- What a chain's `all` finds is what holds at every place. Assumes nothing.
use Prim.Native.Nat.{ℕ, zero, suc, ◌+◌, ◌<◌, ◌≤◌}
use mathlib.Core.Path.{◌≡◌, refl, ap}
use mathlib.Core.Bool.{Bool, true, false}
use mathlib.Core.List.{List}
use native.Mathlib.Omega.{arith}
use lib.ListN.{length, get_or}
use Rattle.std.specs.Bool.{MatchBool}
use Rattle.std.specs.List.{AllWithin, HoldsAt, between}
use Rattle.std.proofs.lemmas.List.Edits.{get_or-between, length-between}
use Rattle.grid.specs.Every.{every}
use Rattle.grid.proofs.Cases.{never}
use Rattle.grid.proofs.EveryLaws.{every-at, every-same}

every-true : (f : ℕ → Bool) (k : ℕ) → ((p : ℕ) → p < k → f p ≡ true) → true ≡ every f k
unfolding every
every-true f zero h = refl
every-true f (suc k) h = rw (← every-true f k (λ p l. h p (omega arith)), h k (omega arith))

every-false : (f : ℕ → Bool) (k p : ℕ) → p < k → f p ≡ false → false ≡ every f k
every-false f k p l e = go (every f k) refl
  where
    go : (b : Bool) → every f k ≡ b → false ≡ b
    go true h = let t : f p ≡ true = every-at f k p h l in never cc
    go false h = refl

pub every_of : (t : ℕ → Bool) (xs : List ℕ) (r : Bool) →
    MatchBool r (AllWithin (λ x. t x ≡ true) xs 0 (length xs)) ((k : ℕ) × (k < length xs) × HoldsAt (λ x. t x ≡ false) xs k) →
    r ≡ every (λ k. t (get_or xs k 0)) (length xs)
every_of t xs true h = every-true _ _ (λ p l. h p 0 (omega arith) l)
every_of t xs false h = every-false _ _ h.0 h.1 (h.2 0)

pub every_part : (t : ℕ → Bool) (from count : ℕ) (xs : List ℕ) → from + count ≤ length xs →
    every (λ k. t (get_or (between from (from + count) xs) k 0)) (length (between from (from + count) xs))
    ≡ every (λ k. t (get_or xs (from + k) 0)) count
every_part t from count xs h =
    let n : length (between from (from + count) xs) ≡ count = omega (arith, length-between xs from (from + count) h) in
    rw n (every-same _ _ count (λ p l. ap t (get_or-between xs from (from + count) p 0 (omega arith))))
