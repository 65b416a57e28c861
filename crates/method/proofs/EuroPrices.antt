-- A number that makes no price whole is found below 17, since there are at most 16 prices.
-- Assumes nothing.
use Prim.Native.Nat.{ℕ, ◌+◌, ◌%◌, ◌≤◌, ◌<◌, min}
use mathlib.Core.Path.{◌≡◌, sym, ◌∙◌}
use mathlib.Core.Bool.{true, true≢false}
use mathlib.Core.Logic.{◌≢◌, ⊎_elim}
use mathlib.Core.List.{List, []}
use native.Mathlib.Omega.{arith}
use borrow.Author.Tests.{leb-true, eqb-false, le-leb, ne_eqb}
use Rattle.grid.specs.First.{IsFirst}
use Rattle.grid.proofs.Cases.{lt_or_le}
use Rattle.grid.proofs.FirstPlaces.{first_is, first-first}
use Rattle.market.specs.Method.{GoodShift}
use Rattle.market.proofs.Rounding.{good_shift}
use Rattle.euros.specs.Euros.{is_whole, none_whole, shift_of}
use Rattle.method.specs.View.{line, ticket}

module _ (prices : List ℕ) (m : ℕ) where
  -- what the test says of every price
  none_whole_lem : (k : ℕ) → ((l : ℕ) → l < m → (line prices l + k) % 18 ≢ 0) → none_whole prices m k ≡ true
  none_whole_lem k apart =
      le-leb m _ (omega (arith, first_is (is_whole prices k) m m (omega arith) (λ q h. ne_eqb _ 0 (apart q h)) (λ h. absurd (omega arith))))

  whole_none : (k : ℕ) → none_whole prices m k ≡ true → (l : ℕ) → l < m → (line prices l + k) % 18 ≢ 0
  whole_none k none l h = eqb-false _ 0 ((first-first (is_whole prices k) m).before l (omega (arith, leb-true m _ none)))

  shift_good : m ≤ 16 → GoodShift (ticket 0 m [] [] []) (line prices) (shift_of prices m)
  shift_good few = record { small = small; apart = whole_none _ (found.there (omega (arith, small))) }
    where
      found : IsFirst (none_whole prices m) 17 (shift_of prices m)
      found = first-first (none_whole prices m) 17

      small : shift_of prices m ≤ 16
      small =
          let (k, good) = good_shift (ticket 0 m [] [] []) (line prices) few in
          ⊎_elim (λ h. omega arith)
          (λ h. absurd (true≢false (sym (none_whole_lem k good.apart) ∙ found.before k (omega (arith, good.small)))))
          (lt_or_le (shift_of prices m) 17)

-- the number that the code finds
pub found_good : (prices : List ℕ) (m r : ℕ) → m ≤ 16 → r ≡ shift_of prices (min 16 m) → GoodShift (ticket 0 m [] [] []) (line prices) r
found_good prices m r few e = let same : min 16 m ≡ m = omega arith in rw (e, same) (shift_good prices m few)
