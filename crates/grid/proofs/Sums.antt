-- The laws of sums. No proof elsewhere unfolds a sum.
use Prim.Native.Nat.{ℕ, zero, suc, ◌+◌, ◌-◌, ◌*◌, ◌≤◌, ◌<◌}
use mathlib.Core.Path.{◌≡◌, refl, ap, sym, ◌∙◌}
use mathlib.Core.Logic.{◌≢◌}
use native.Mathlib.Nat.{mul-suc, add-suc, add-zero}
use native.Mathlib.Numerals.{add-one}
use native.Mathlib.Decide.{dec_lt, ℕ_discrete}
use native.Mathlib.Omega.{arith}
use Rattle.grid.specs.Sum.{sum, sum_square}

-- what a loop starts with, and what its turn adds
pub sum-none : (f : ℕ → ℕ) → sum f 0 ≡ 0
unfolding sum
sum-none f = refl

pub sum_more : (f : ℕ → ℕ) (k : ℕ) → sum f (k + 1) ≡ sum f k + f k
unfolding sum
sum_more f k = rw (add-one k)

-- smaller terms have a smaller sum
pub sum_le : (f g : ℕ → ℕ) (k : ℕ) → ((x : ℕ) → x < k → f x ≤ g x) → sum f k ≤ sum g k
unfolding sum
sum_le f g zero le = omega arith
sum_le f g (suc k) le = omega (arith, sum_le f g k (λ x h. le x (omega arith)), le k (omega arith))

pub sum_same : (f g : ℕ → ℕ) (k : ℕ) → ((x : ℕ) → x < k → f x ≡ g x) → sum f k ≡ sum g k
sum_same f g k e = omega (arith, sum_le f g k (λ x h. omega (arith, e x h)), sum_le g f k (λ x h. omega (arith, e x h)))

pub sum-zero : (k : ℕ) → sum (λ x. 0) k ≡ 0
unfolding sum
sum-zero zero = refl
sum-zero (suc k) = omega (arith, sum-zero k)

pub sum_ones : (k : ℕ) → sum (λ x. 1) k ≡ k
unfolding sum
sum_ones zero = refl
sum_ones (suc k) = omega (arith, sum_ones k)

-- terms that are no greater, with a sum that is no smaller, are no smaller
pub sum_tight : (f g : ℕ → ℕ) (k : ℕ) → ((x : ℕ) → x < k → f x ≤ g x) → sum g k ≤ sum f k → (x : ℕ) → x < k → g x ≤ f x
unfolding sum
sum_tight f g zero le h x hx = omega arith
sum_tight f g (suc k) le h x hx =
    let low = sum_le f g k (λ y hy. le y (omega arith)) in
    let last = le k (omega arith) in
    let before : x < k → g x ≤ f x = sum_tight f g k (λ y hy. le y (omega arith)) (omega arith) x in
    elim (ℕ_discrete x k) [ yes p ↦ rw p (omega arith) | no p ↦ before (omega arith) ]

-- terms that are no greater, and one smaller, have a smaller sum
pub sum_lt : (f g : ℕ → ℕ) (k x : ℕ) → ((y : ℕ) → y < k → f y ≤ g y) → x < k → f x < g x → sum f k < sum g k
sum_lt f g k x le hx h = elim (dec_lt (sum f k) (sum g k)) [
  | yes p ↦ p
  | no p ↦ absurd (omega (arith, sum_tight f g k le (omega arith) x hx))
]

-- one changed term changes the sum as much
pub sum_one : (f g : ℕ → ℕ) (k x : ℕ) → x < k → ((y : ℕ) → y < k → y ≢ x → g y ≡ f y) → sum g k + f x ≡ sum f k + g x
unfolding sum
sum_one f g zero x hx e = omega arith
sum_one f g (suc k) x hx e =
    let before : x < k → sum g k + f x ≡ sum f k + g x = λ h. sum_one f g k x h (λ y hy. e y (omega arith)) in
    elim (ℕ_discrete x k) [
      | yes p ↦ rw p (omega (arith, sum_same g f k (λ y hy. e y (omega arith) (omega arith))))
      | no p ↦ omega (arith, before (omega arith), e k (omega arith) (omega arith))
    ]

pub term_le_sum : (f : ℕ → ℕ) (k x : ℕ) → x < k → f x ≤ sum f k
unfolding sum
term_le_sum f zero x h = omega arith
term_le_sum f (suc k) x h =
    let before : x < k → f x ≤ sum f k = term_le_sum f k x in
    elim (ℕ_discrete x k) [ yes p ↦ rw p (omega arith) | no p ↦ omega (arith, before (omega arith)) ]

-- a sum of 0 has no other terms
pub no_term : (f : ℕ → ℕ) (k x : ℕ) → sum f k ≡ 0 → x < k → f x ≡ 0
no_term f k x e h = omega (arith, term_le_sum f k x h)

-- terms of at most b
pub sum_bound : (f : ℕ → ℕ) (b k : ℕ) → ((x : ℕ) → x < k → f x ≤ b) → sum f k ≤ b * k
unfolding sum
sum_bound f b zero le = omega arith
sum_bound f b (suc k) le = omega (arith, mul-suc b k, sum_bound f b k (λ x h. le x (omega arith)), le k (omega arith))

-- terms from place k on that are 0 add nothing
pub sum_past : (f : ℕ → ℕ) (k l : ℕ) → ((x : ℕ) → k ≤ x → f x ≡ 0) → sum f (k + l) ≡ sum f k
unfolding sum
sum_past f k zero e = ap (sum f) (add-zero k)
sum_past f k (suc l) e = rw (add-suc k l) (omega (arith, sum_past f k l e, e (k + l) (omega arith)))

-- the same for terms that are 0 from place 16 on, and a number of terms that was cut to 16
pub sum_cut : (f : ℕ → ℕ) → ((x : ℕ) → 16 ≤ x → f x ≡ 0) → (k end : ℕ) → (k < 17 → end ≡ k) → (16 < k → end ≡ 16) → sum f end ≡ sum f k
sum_cut f none k end few many = elim (dec_lt 16 k) [
  | yes p ↦ let e : 16 + (k - 16) ≡ k = omega arith in rw (many p) (sym (sum_past f 16 (k - 16) none) ∙ ap (sum f) e)
  | no p ↦ ap (sum f) (few (omega arith))
]

pub sum-add : (f g : ℕ → ℕ) (k : ℕ) → sum (λ x. f x + g x) k ≡ sum f k + sum g k
unfolding sum
sum-add f g zero = refl
sum-add f g (suc k) = omega (arith, sum-add f g k)

pub sum_scale : (f : ℕ → ℕ) (u k : ℕ) → sum (λ x. f x * u) k ≡ sum f k * u
unfolding sum
sum_scale f u zero = omega arith
sum_scale f u (suc k) = omega (arith, sum_scale f u k)

-- a square, by rows and by columns
pub sum_swap : (f : ℕ → ℕ → ℕ) (k l : ℕ) → sum_square f k l ≡ sum_square (λ y x. f x y) l k
unfolding sum
sum_swap f zero l = rw (sum-zero l)
sum_swap f (suc k) l = rw (sum-add (λ y. sum (λ x. f x y) k) (f k) l, sum_swap f k l)

pub square_le : (f g : ℕ → ℕ → ℕ) (k l : ℕ) → ((x y : ℕ) → x < k → y < l → f x y ≤ g x y) → sum_square f k l ≤ sum_square g k l
square_le f g k l le = sum_le _ _ k (λ x hx. sum_le (f x) (g x) l (λ y hy. le x y hx hy))

pub square_same : (f g : ℕ → ℕ → ℕ) (k l : ℕ) → ((x y : ℕ) → x < k → y < l → f x y ≡ g x y) → sum_square f k l ≡ sum_square g k l
square_same f g k l e = sum_same _ _ k (λ x hx. sum_same (f x) (g x) l (λ y hy. e x y hx hy))

pub square_add : (f g : ℕ → ℕ → ℕ) (k l : ℕ) → sum_square (λ x y. f x y + g x y) k l ≡ sum_square f k l + sum_square g k l
square_add f g k l =
    omega (arith, sum_same _ _ k (λ x h. sum-add (f x) (g x) l), sum-add (λ x. sum (f x) l) (λ x. sum (g x) l) k)

pub cell_le_square : (f : ℕ → ℕ → ℕ) (k l x y : ℕ) → x < k → y < l → f x y ≤ sum_square f k l
cell_le_square f k l x y hx hy = omega (arith, term_le_sum (f x) l y hy, term_le_sum (λ v. sum (f v) l) k x hx)

-- one changed cell changes the sum as much
pub square_one : (f g : ℕ → ℕ → ℕ) (k l x y : ℕ) → x < k → y < l → ((v w : ℕ) → (v ≡ x → w ≡ y → ⊥) → g v w ≡ f v w) →
    sum_square g k l + f x y ≡ sum_square f k l + g x y
square_one f g k l x y hx hy e = omega (
  arith,
  sum_one (f x) (g x) l y hy (λ w hw ne. e x w (λ _. ne)),
  sum_one (λ v. sum (f v) l) (λ v. sum (g v) l) k x hx (λ v hv ne. sum_same (g v) (f v) l (λ w hw. e v w (λ p _. ne p))),
)
