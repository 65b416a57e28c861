-- What a chain finds is the first place at which a test holds. Assumes nothing.
use Prim.Native.Nat.{ℕ, ◌<◌, ◌≤◌}
use mathlib.Core.Path.{◌≡◌, sym, ◌∙◌, ap}
use mathlib.Core.Bool.{Bool, true, false}
use mathlib.Core.List.{List}
use native.Mathlib.Omega.{arith}
use lib.ListN.{length, get_or, take}
use Rattle.std.specs.Prelude.{Option, Some, None}
use Rattle.std.specs.Option.{MatchOption, unwrap_or}
use Rattle.std.specs.List.{AllWithin, HoldsAt}
use Rattle.std.proofs.lemmas.List.{get_or-take, length-take-le}
use Rattle.grid.specs.First.{first}
use Rattle.grid.proofs.FirstPlaces.{first_is}

-- by `position`, among the first m numbers of a list
module _ (t : ℕ → Bool) (xs : List ℕ) (m : ℕ) (fits : m ≤ length xs) where
  front-long : length (take m xs) ≡ m
  front-long = length-take-le m xs fits

  front-at : (k : ℕ) {b : Bool} → k < m → t (get_or (take m xs) k 0) ≡ b → t (get_or xs k 0) ≡ b
  front-at k l e = ap t (sym (get_or-take m xs k 0 l)) ∙ e

  pub first_of : (r : Option ℕ) →
      MatchOption r (AllWithin (λ x. t x ≡ false) (take m xs) 0 (length (take m xs)))
      (λ k. (k < length (take m xs)) × HoldsAt (λ x. t x ≡ true) (take m xs) k × AllWithin (λ x. t x ≡ false) (take m xs) 0 k) →
      unwrap_or r m ≡ first (λ k. t (get_or xs k 0)) m
  first_of None h = sym
      (first_is _ _ _ (omega arith) (λ q l. front-at q l (h q 0 (omega arith) (omega (arith, front-long)))) (λ l. absurd (omega arith)))
  first_of (Some k) h = sym
      (first_is _ _ _ (omega (arith, h.0, front-long)) (λ q l. front-at q (omega (arith, h.0, front-long)) (h.2 q 0 (omega arith) l))
      (λ l. front-at k l (h.1 0)))

-- by `find`, among the numbers below m
pub first_below : (t : ℕ → Bool) (m : ℕ) (r : Option ℕ) →
    MatchOption r ((k : ℕ) → 0 ≤ k → k < m → t k ≡ false)
    (λ k. (0 ≤ k) × (k < m) × (t k ≡ true) × ((q : ℕ) → 0 ≤ q → q < k → t q ≡ false)) →
    unwrap_or r m ≡ first t m
first_below t m None h = sym (first_is _ _ _ (omega arith) (λ q l. h q (omega arith) l) (λ l. absurd (omega arith)))
first_below t m (Some k) h = sym (first_is _ _ _ (omega (arith, h.1)) (λ q l. h.3 q (omega arith) l) (λ l. h.2))
