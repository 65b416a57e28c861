-- The digits of parties without hours.
-- Assumes nothing.
use mathlib.Core.Path.{◌≡◌, refl, sym, ap, ◌∙◌}
use mathlib.Core.Bool.{Bool, true, false, cond, ◌||◌}
use mathlib.Core.Logic.{⊎_elim, ◌⊎◌}
use mathlib.Core.List.{List, [], ◌∷◌}
use Prim.Native.Nat.{ℕ, zero, suc, ◌+◌, ◌*◌, ◌-◌, ◌/◌, ◌%◌, ◌^◌, ◌≤◌, ◌<◌}
use native.Mathlib.Nat.{div-eq_of_lt, div-div-eq-div-mul, pow-le-pow_right, zero-add}
use native.Mathlib.Omega.{arith}
use lib.Dec.{eqb, lit<}
use lib.ListN.{length, get_or, take}
use lib.Seq.{get_or-take}
use Rattle.grid.proofs.Places.{inside, cell_place}
use Rattle.checks.specs.Hours.{noted, noted_all, has_none, none_of, none_in}

-- There is none beyond the last digit.
pub none_beyond : (without k : ℕ) → without < 4294967296 → 32 ≤ k → false ≡ has_none without k
none_beyond without k h l =
    let big : 2 ^ 32 ≤ 2 ^ k = pow-le-pow_right {n = 2} (omega arith) l in
    let e : without / 2 ^ k ≡ 0 = div-eq_of_lt (omega arith) in
    rw e

-- Nobody without hours.
none_of-none : (k : ℕ) → has_none 0 k ≡ false
none_of-none k =
    let le : 0 ≤ k = omega arith in
    let some : 2 ^ 0 ≤ 2 ^ k = pow-le-pow_right {n = 2} (omega arith) le in
    let e : 0 / 2 ^ k ≡ 0 = div-eq_of_lt (omega arith) in
    rw e

pub nobody_of_none : (n m q : ℕ) → false ≡ none_of 0 n m q
nobody_of_none n m q = rw (none_of-none (n + m - suc (q / m)), none_of-none (m - suc (q % m)))

-- The digit of one party more, and those of the others, which it follows.
module _ (without x : ℕ) (h : without < 2147483648) where
  half : noted without x / 2 ≡ without
  half = go (eqb x 0)
    where
      go : (b : Bool) → (2 * (without % 2147483648) + cond b 1 0) / 2 ≡ without
      go true = omega arith
      go false = omega arith

  noted_before : (k : ℕ) → has_none (noted without x) (suc k) ≡ has_none without k
  noted_before k =
      let e : noted without x / 2 ^ suc k ≡ without / 2 ^ k =
      ap (λ (d : ℕ). noted without x / d) (omega arith)
      ∙ sym (div-div-eq-div-mul (noted without x) 2 (2 ^ k))
      ∙ ap (λ (y : ℕ). y / 2 ^ k) half in
      rw e

noted-last : (without x : ℕ) → has_none (noted without x) 0 ≡ eqb x 0
noted-last without x = go (eqb x 0)
  where
    odd : (b : Bool) (y : ℕ) → (2 * y + cond b 1 0) / 1 % 2 ≡ cond b 1 0
    odd true y = omega arith
    odd false y = omega arith

    go : (b : Bool) → eqb ((2 * (without % 2147483648) + cond b 1 0) / 1 % 2) 1 ≡ b
    go true = rw (odd true (without % 2147483648))
    go false = rw (odd false (without % 2147483648))

-- As many digits as parties.
noted_small : (without x k : ℕ) → without < 2 ^ k → k < 32 → (without < 2147483648) × (noted without x < 2 ^ suc k)
noted_small without x k h l =
    let le : k ≤ 31 = omega arith in
    let big : 2 ^ k ≤ 2 ^ 31 = pow-le-pow_right {n = 2} (omega arith) le in
    (omega arith, go (eqb x 0))
  where
    go : (b : Bool) → 2 * (without % 2147483648) + cond b 1 0 < 2 ^ suc k
    go true = omega arith
    go false = omega arith

-- Of several: the digits before them, and theirs.
all_before : (without : ℕ) (xs : List ℕ) (k q : ℕ) → without < 2 ^ k → k + length xs ≤ 32 →
    has_none (noted_all without xs) (length xs + q) ≡ has_none without q
all_before without [] k q h l = rw (zero-add q)
all_before without (x ∷ xs) k q h l =
    let e : suc (length xs) + q ≡ length xs + suc q = omega arith in
    let small = noted_small without x k h (omega arith) in
    rw e (all_before (noted without x) xs (suc k) (suc q) small.1 (omega arith) ∙ noted_before without x small.0 q)

all_noted : (without : ℕ) (xs : List ℕ) (k p : ℕ) → without < 2 ^ k → k + length xs ≤ 32 → p < length xs →
    has_none (noted_all without xs) (length xs - suc p) ≡ eqb (get_or xs p 0) 0
all_noted without [] k p h l m = absurd (omega arith)
all_noted without (x ∷ xs) k zero h l m =
    let e : suc (length xs) - 1 ≡ length xs + 0 = omega arith in
    let small = noted_small without x k h (omega arith) in
    rw e (all_before (noted without x) xs (suc k) 0 small.1 (omega arith) ∙ noted-last without x)
all_noted without (x ∷ xs) k (suc p) h l m =
    let e : suc (length xs) - suc (suc p) ≡ length xs - suc p = omega arith in
    let small = noted_small without x k h (omega arith) in
    rw e (all_noted (noted without x) xs (suc k) p small.1 (omega arith) (omega arith))

-- Who is noted at the pairs: everybody without hours.
pub none-noted : (hours : List ℕ) (n m q : ℕ) → length hours ≡ n + m → n + m ≤ 32 → q < n * m →
    none_of (noted_all 0 hours) n m q ≡ none_in hours n m q
none-noted hours n m q l few h =
    let i = (inside n m q h).grower in
    let j = (inside n m q h).pilot in
    let eᵢ : n + m - suc (q / m) ≡ length hours - suc (q / m) = omega arith in
    let eⱼ : m - suc (q % m) ≡ length hours - suc (n + q % m) = omega arith in
    rw (
      eᵢ,
      eⱼ,
      all_noted 0 hours 0 (q / m) (lit< tt) (omega arith) (omega arith),
      all_noted 0 hours 0 (n + q % m) (lit< tt) (omega arith) (omega arith),
    )

-- Their hours stand in front of whatever else follows.
pub none_taken : (xs : List ℕ) (n m q : ℕ) → q < n * m → none_in (take (n + m) xs) n m q ≡ none_in xs n m q
none_taken xs n m q h =
    let i = (inside n m q h).grower in
    let j = (inside n m q h).pilot in
    rw (get_or-take (n + m) xs (q / m) 0 (omega arith), get_or-take (n + m) xs (n + q % m) 0 (omega arith))

-- The pair of grower i and pilot j has somebody without hours, if either has none.
pub none_of-pair : (hours : List ℕ) (n m i j : ℕ) → j < m → (get_or hours i 0 ≡ 0) ⊎ (get_or hours (n + j) 0 ≡ 0) →
    none_in hours n m (i * m + j) ≡ true
none_of-pair hours n m i j h none =
    let e = cell_place m i j h in
    rw (e.0, e.1) (⊎_elim (λ e. rw e) (λ e. rw e (or_true (eqb (get_or hours i 0) 0))) none)
  where
    or_true : (b : Bool) → (b || true) ≡ true
    or_true true = refl
    or_true false = refl
