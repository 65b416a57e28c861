-- Numbers listed one party after another, and zeros after them.
-- Assumes nothing.
use Prim.Native.Nat.{ℕ, zero, suc, ◌+◌, ◌*◌, ◌-◌, ◌<◌, ◌≤◌}
use mathlib.Core.Path.{◌≡◌, refl, sym, ap, ◌∙◌}
use mathlib.Core.List.{List, [], ◌∷◌, ◌++◌, append_assoc, append-nil}
use native.Mathlib.Nat.{mul-suc, mul-le-mul_left, one-mul}
use native.Mathlib.Numerals.{add-one}
use native.Mathlib.Decide.{ℕ_discrete}
use native.Mathlib.Omega.{arith}
use lib.ListN.{length, get_or, set, replicate, length-append, get_or-append}
use lib.Seq.{set_at, get_or-append-add}
use Rattle.market.specs.Market.{Ticket, Settlement}
use Rattle.market.specs.Accounts.{grower_gain, pilot_pay}
use Rattle.commission.specs.Bands.{commission}
use Rattle.accounts.specs.Accounted.{cents_of, each, gain_listed, pay_listed, account_numbers, gain_at, pay_at, padded}
use Rattle.accounts.specs.Listing.{Listed}

pub each_none : (f : ℕ → List ℕ) → each f 0 ≡ []
unfolding each
each_none f = refl

pub each_more : (f : ℕ → List ℕ) (k : ℕ) → each f (k + 1) ≡ each f k ++ f k
unfolding each
each_more f k = rw (add-one k)

pub each_same : (f g : ℕ → List ℕ) (k : ℕ) → ((p : ℕ) → p < k → f p ≡ g p) → each f k ≡ each g k
unfolding each
each_same f g zero e = refl
each_same f g (suc k) e = rw (each_same f g k (λ p h. e p (omega arith)), e k (omega arith))

-- where each has c numbers
module _ (f : ℕ → List ℕ) (c : ℕ) (long : (p : ℕ) → length (f p) ≡ c) where
  pub each-length : (k : ℕ) → length (each f k) ≡ c * k
  unfolding each
  each-length zero = omega arith
  each-length (suc k) = length-append (each f k) (f k) ∙ omega (arith, each-length k, long k, mul-suc c k)

  -- the numbers of party p begin at c * p
  pub each_at : (k p q : ℕ) → p < k → q < c → get_or (each f k) (c * p + q) 0 ≡ get_or (f p) q 0
  unfolding each
  each_at zero p q hp hq = absurd (omega arith)
  each_at (suc k) p q hp hq = elim (ℕ_discrete p k) [
    | yes e ↦ rw e (ap (λ (n : ℕ). get_or (each f k ++ f k) (n + q) 0) (sym (each-length k)) ∙ get_or-append-add (each f k) (f k) q 0)
    | no n ↦ get_or-append (each f k) (f k) 0 (c * p + q) (inside n) ∙ each_at k p q (omega arith) hq
  ]
    where
      inside : (p ≡ k → ⊥) → c * p + q < length (each f k)
      inside n = omega (arith, each-length k, mul-suc c p, mul-le-mul_left c (below n))
        where
          below : (p ≡ k → ⊥) → suc p ≤ k
          below n = omega arith

-- One more number takes the place of the first zero.
padded-put : (xs : List ℕ) (place v : ℕ) → length xs ≡ place → place < 48 → set (padded xs) place v ≡ padded (xs ++ v ∷ [])
padded-put xs place v e h =
    let n = 48 - length xs - 1 in
    let split : 48 - length xs ≡ suc n = omega arith in
    let rest : 48 - length (xs ++ v ∷ []) ≡ n = omega (arith, length-append xs (v ∷ [])) in
    ap (λ (k : ℕ). set (xs ++ replicate k 0) place v) split
    ∙ set_at xs 0 (replicate n 0) v place e
    ∙ sym (ap (λ (k : ℕ). (xs ++ v ∷ []) ++ replicate k 0) rest ∙ append_assoc xs (v ∷ []) (replicate n 0))

-- The steps of a loop that lists.
pub listed_none : (list : List ℕ) (from : ℕ) (f : ℕ → List ℕ) → Listed list list from (each f 0)
listed_none list from f xs e h = h ∙ ap padded (sym (append-nil xs) ∙ ap (λ (ys : List ℕ). xs ++ ys) (sym (each_none f)))

pub listed_put : (before list : List ℕ) (from : ℕ) (ys : List ℕ) (place v : ℕ) → place ≡ from + length ys → place < 48 →
    Listed before list from ys → Listed before (set list place v) from (ys ++ v ∷ [])
listed_put before list from ys place v e h l xs long b =
    ap (λ (zs : List ℕ). set zs place v) (l xs long b)
    ∙ padded-put (xs ++ ys) place v (length-append xs ys ∙ omega arith) h
    ∙ ap padded (append_assoc xs ys (v ∷ []))

-- a gain, and a pay with its commission
pub listed_gain : (before list gains : List ℕ) (i v : ℕ) → i < 48 → v ≡ get_or gains i 0 →
    Listed before list 0 (each (λ k. gain_listed (get_or gains k 0)) i) →
    Listed before (set list i v) 0 (each (λ k. gain_listed (get_or gains k 0)) (i + 1))
listed_gain before list gains i v h e l =
    let f : ℕ → List ℕ = λ k. gain_listed (get_or gains k 0) in
    rw (each_more f i, ← e) (listed_put before list 0 (each f i) i v (omega (arith, each-length f 1 (λ p. refl) i)) h l)

pub listed_pay : (before list pays : List ℕ) (from j place v w : ℕ) → place ≡ from + 2 * j → place + 1 < 48 → v ≡ get_or pays j 0 →
    w ≡ commission (cents_of v) → Listed before list from (each (λ k. pay_listed (get_or pays k 0)) j) →
    Listed before (set (set list place v) (place + 1) w) from (each (λ k. pay_listed (get_or pays k 0)) (j + 1))
listed_pay before list pays from j place v w at h e c l xs long b =
    let f : ℕ → List ℕ = λ k. pay_listed (get_or pays k 0) in
    let size = each-length f 2 (λ p. refl) j in
    let first = listed_put before list from (each f j) place v (omega (arith, size)) (omega arith) l in
    let both : v ∷ w ∷ [] ≡ f j = rw (c, e) in
    listed_put before (set list place v) from (each f j ++ v ∷ []) (place + 1) w
    (omega (arith, size, length-append (each f j) (v ∷ []))) h first xs long b
    ∙ ap (λ (ys : List ℕ). padded (xs ++ ys))
    (append_assoc (each f j) (v ∷ []) (w ∷ []) ∙ ap (λ (ys : List ℕ). each f j ++ ys) both ∙ sym (each_more f j))

pub listed_all : (before list : List ℕ) (from : ℕ) (f : ℕ → List ℕ) (k n : ℕ) → k ≡ n → Listed before list from (each f k) →
    Listed before list from (each f n)
listed_all before list from f k n e l = rw e at l

-- What stands at the places of an account.
module _ (t : Ticket) (x : Settlement) where
  abbrev listed_gains : List ℕ
  listed_gains = each (λ i. gain_listed (grower_gain t x i)) t.growers

  abbrev listed_pays : List ℕ
  listed_pays = each (λ j. pay_listed (pilot_pay t x j)) t.pilots

  gains_length : length listed_gains ≡ t.growers
  gains_length = omega (arith, each-length (λ i. gain_listed (grower_gain t x i)) 1 (λ i. refl) t.growers)

  pub account_length : length (account_numbers t x) ≡ t.growers + 2 * t.pilots
  account_length = omega (
    arith,
    length-append listed_gains listed_pays,
    gains_length,
    each-length (λ j. pay_listed (pilot_pay t x j)) 2 (λ j. refl) t.pilots,
  )

  pub gain_listed_lem : (i : ℕ) → i < t.growers → gain_at (padded (account_numbers t x)) i ≡ grower_gain t x i
  gain_listed_lem i hi =
      let e : i ≡ 1 * i + 0 = omega arith in
      get_or-append (account_numbers t x) _ 0 i (omega (arith, account_length))
      ∙ get_or-append listed_gains listed_pays 0 i (omega (arith, gains_length))
      ∙ ap (λ (p : ℕ). get_or listed_gains p 0) e
      ∙ each_at (λ k. gain_listed (grower_gain t x k)) 1 (λ k. refl) t.growers i 0 hi (omega arith)

  pub pay_listed_lem : (j : ℕ) → j < t.pilots → pay_at (padded (account_numbers t x)) t.growers j ≡ pilot_pay t x j
  pay_listed_lem j hj =
      let e : t.growers + 2 * j ≡ length listed_gains + (2 * j + 0) = omega (arith, gains_length) in
      get_or-append (account_numbers t x) _ 0 (t.growers + 2 * j) (omega (arith, account_length))
      ∙ ap (λ (p : ℕ). get_or (account_numbers t x) p 0) e
      ∙ get_or-append-add listed_gains listed_pays (2 * j + 0) 0
      ∙ each_at (λ k. pay_listed (pilot_pay t x k)) 2 (λ k. refl) t.pilots j 0 hj (omega arith)

-- Gains and then pays, listed after nothing, are the numbers of the account.
pub numbers_listed : (t : Ticket) (x : Settlement) (n m : ℕ) (gains pays start middle end : List ℕ) → n ≡ t.growers → m ≡ t.pilots →
    ((i : ℕ) → i < t.growers → get_or gains i 0 ≡ grower_gain t x i) → ((j : ℕ) → j < t.pilots → get_or pays j 0 ≡ pilot_pay t x j) →
    start ≡ padded [] → Listed start middle 0 (each (λ i. gain_listed (get_or gains i 0)) n) →
    Listed middle end n (each (λ j. pay_listed (get_or pays j 0)) m) →
    (n + 2 * m ≡ length (account_numbers t x)) × (end ≡ padded (account_numbers t x))
numbers_listed t x n m gains pays start middle end en em g p s first second = (
  omega (arith, account_length t x),
  second (each (λ i. gain_listed (get_or gains i 0)) n) (each-length (λ i. gain_listed (get_or gains i 0)) 1 (λ i. refl) n ∙ one-mul n)
      (first [] refl s)
      ∙ ap padded same,
)
  where
    same_gains : each (λ i. gain_listed (get_or gains i 0)) t.growers ≡ listed_gains t x
    same_gains = each_same _ _ t.growers (λ i h. ap gain_listed (g i h))

    same_pays : each (λ j. pay_listed (get_or pays j 0)) t.pilots ≡ listed_pays t x
    same_pays = each_same _ _ t.pilots (λ j h. ap pay_listed (p j h))

    same : each (λ i. gain_listed (get_or gains i 0)) n ++ each (λ j. pay_listed (get_or pays j 0)) m ≡ account_numbers t x
    same = rw (en, em, same_gains, same_pays)
