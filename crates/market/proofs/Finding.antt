-- Finding one of finitely many things: a term that is not 0, one that is 0, the least, the greatest.
-- Assumes nothing.
use Prim.Native.Nat.{ℕ, zero, suc, ◌-◌, max, ◌≤◌, ◌<◌}
use mathlib.Core.Path.{◌≡◌}
use mathlib.Core.Logic.{◌⊎◌, inl, inr, ⊎_elim}
use native.Mathlib.Nat.{le_refl}
use native.Mathlib.Decide.{dec_le, dec_lt, ℕ_discrete}
use native.Mathlib.Omega.{arith}
use Rattle.grid.specs.Sum.{sum}
use Rattle.market.specs.declared.Deal.{Deal}
use Rattle.market.specs.declared.Deal.TheVariants.{Tariff, Free}
use Rattle.grid.proofs.Sums.{term_le_sum}

-- what holds below k and of k holds below k + 1
pub upto : (P : ℕ → Type 0) (k : ℕ) → ((x : ℕ) → x < k → P x) → P k → (x : ℕ) → x < suc k → P x
upto P k below last x h = elim (ℕ_discrete x k) [ yes p ↦ rw p last | no p ↦ below x (omega arith) ]

-- A sum that is not 0 has a term that is not 0.
pub some_term : (f : ℕ → ℕ) (k : ℕ) → 0 < sum f k → (x : ℕ) × (x < k) × (0 < f x)
unfolding sum
some_term f zero h = absurd (omega arith)
some_term f (suc k) h =
    let before : 0 < sum f k → (x : ℕ) × (x < suc k) × (0 < f x) = λ hk. (let z = some_term f k hk in (z.0, omega arith, z.2)) in
    elim (dec_lt 0 (f k)) [ yes p ↦ (k, omega arith, p) | no p ↦ before (omega arith) ]

-- Of k terms with a sum below k, one is 0.
pub some_zero : (f : ℕ → ℕ) (k : ℕ) → sum f k < k → (x : ℕ) × (x < k) × (f x ≡ 0)
unfolding sum
some_zero f zero h = absurd (omega arith)
some_zero f (suc k) h =
    let before : sum f k < k → (x : ℕ) × (x < suc k) × (f x ≡ 0) = λ hk. (let z = some_zero f k hk in (z.0, omega arith, z.2)) in
    elim (ℕ_discrete (f k) 0) [ yes p ↦ (k, omega arith, p) | no p ↦ before (omega arith) ]

-- Those numbers below k are chosen for which g is not 0. None is, or one of them has the least f.
abbrev pub Least : (ℕ → ℕ) → (ℕ → ℕ) → ℕ → Type 0
Least g f k = ((x : ℕ) → x < k → g x ≡ 0) ⊎ ((x : ℕ) × (x < k) × (0 < g x) × ((y : ℕ) → y < k → 0 < g y → f x ≤ f y))

pub least : (g f : ℕ → ℕ) (k : ℕ) → Least g f k
least g f zero = inl (λ x h. absurd (omega arith))
least g f (suc k) = go (least g f k)
  where
    go : Least g f k → Least g f (suc k)
    go (inl none) = elim (dec_lt 0 (g k)) [
      | yes p ↦ inr (k, omega arith, p, upto (λ y. 0 < g y → f k ≤ f y) k (λ y h some. absurd (omega (arith, none y h))) (λ _. le_refl _))
      | no p ↦ inl (upto (λ y. g y ≡ 0) k none (omega arith))
    ]
    go (inr (x, hx, some, low)) =
        let stays : (0 < g k → f x ≤ f k) → Least g f (suc k) = λ h.
        inr (x, omega arith, some, upto (λ y. 0 < g y → f x ≤ f y) k low h) in
        elim (dec_le (f x) (f k)) [
          | yes p ↦ stays (λ _. p)
          | no p ↦ elim (dec_lt 0 (g k)) [
            | yes q ↦ inr (k, omega arith, q, upto (λ y. 0 < g y → f k ≤ f y) k (λ y h z. omega (arith, low y h z)) (λ _. le_refl _))
            | no q ↦ stays (λ z. absurd (omega arith))
          ]
        ]

-- What can be found for each number below k, one function finds.
abbrev value : (P : ℕ → ℕ → Type 0) (k : ℕ) → ((x : ℕ) → x < k → (u : ℕ) × P x u) → (x : ℕ) → Dec (x < k) → ℕ
value P k find x (yes h) = (find x h).0
value P k find x (no h) = 0

value_fits : (P : ℕ → ℕ → Type 0) (k : ℕ) (find : (x : ℕ) → x < k → (u : ℕ) × P x u) (x : ℕ) → x < k → (d : Dec (x < k)) →
    P x (value P k find x d)
value_fits P k find x hx (yes h) = (find x h).1
value_fits P k find x hx (no h) = absurd (h hx)

pub choose : (P : ℕ → ℕ → Type 0) (k : ℕ) → ((x : ℕ) → x < k → (u : ℕ) × P x u) → (f : ℕ → ℕ) × ((x : ℕ) → x < k → P x (f x))
choose P k find = (λ x. value P k find x (dec_lt x k), λ x hx. value_fits P k find x hx (dec_lt x k))

-- Of k numbers none is above v, or one is, and is the greatest.
abbrev Peak : (ℕ → ℕ) → ℕ → ℕ → Type 0
Peak f v k = ((x : ℕ) → x < k → f x ≤ v) ⊎ ((x : ℕ) × (x < k) × (v < f x) × ((y : ℕ) → y < k → f y ≤ f x))

peak : (f : ℕ → ℕ) (v k : ℕ) → Peak f v k
peak f v k = ⊎_elim
    (λ none. inl (λ x h. omega (arith, none x h)))
    (λ z. inr (
      z.0,
      z.1,
      omega (arith, z.2),
      λ y h. elim (dec_le (f y) v) [
        | yes p ↦ omega (arith, z.2)
        | no p ↦ omega (arith, z.3 y h (omega arith), term_le_sum f k y h)
      ],
    ))
    (least (λ x. f x - v) (λ x. sum f k - f x) k)

-- The same of both deals with each of k partners.
abbrev pub PeakOfDeals : (Deal → ℕ → ℕ) → ℕ → ℕ → Type 0
PeakOfDeals f v k = ((d : Deal) (x : ℕ) → x < k → f d x ≤ v) ⊎
    ((d : Deal) × (x : ℕ) × (x < k) × (v < f d x) × ((e : Deal) (y : ℕ) → y < k → f e y ≤ f d x))

pub peak_of_deals : (f : Deal → ℕ → ℕ) (v k : ℕ) → PeakOfDeals f v k
peak_of_deals f v k = go (peak (λ x. max (f Tariff x) (f Free x)) v k)
  where
    below : (d : Deal) (x : ℕ) → f d x ≤ max (f Tariff x) (f Free x)
    below Tariff x = omega arith
    below Free x = omega arith

    go : Peak (λ x. max (f Tariff x) (f Free x)) v k → PeakOfDeals f v k
    go (inl low) = inl (λ d x h. omega (arith, below d x, low x h))
    go (inr (x, hx, high, most)) = elim (dec_le (f Tariff x) (f Free x)) [
      | yes p ↦ inr (Free, x, hx, omega arith, λ e y h. omega (arith, below e y, most y h))
      | no p ↦ inr (Tariff, x, hx, omega arith, λ e y h. omega (arith, below e y, most y h))
    ]
