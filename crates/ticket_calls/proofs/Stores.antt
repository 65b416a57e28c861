-- Numbers stored into a list one after another: what stands where, and in the front of it.
-- Assumes nothing.
use Prim.Native.Nat.{ℕ, zero, suc, ◌+◌, ◌≤◌, ◌<◌}
use mathlib.Core.Path.{◌≡◌, refl, ap, ◌∙◌}
use mathlib.Core.List.{List, [], ◌∷◌}
use native.Mathlib.Omega.{arith}
use lib.ListN.{get_or, set, take, length, length-set}
use lib.Seq.{sets, get_or-set_same, get_or-set_other}

pub take-set : (k : ℕ) (l : List ℕ) (p x : ℕ) → take k (set l p x) ≡ set (take k l) p x
take-set zero l p x = refl
take-set (suc k) [] p x = refl
take-set (suc k) (y ∷ l) zero x = refl
take-set (suc k) (y ∷ l) (suc p) x = ap (λ (r : List ℕ). y ∷ r) (take-set k l p x)

pub take_sets : (k : ℕ) (l : List ℕ) (p : ℕ) (xs : List ℕ) → take k (sets l p xs) ≡ sets (take k l) p xs
take_sets k l p [] = refl
take_sets k l p (x ∷ xs) = take_sets k (set l p x) (suc p) xs ∙ ap (λ (r : List ℕ). sets r (suc p) xs) (take-set k l p x)

pub sets_before : (l : List ℕ) (p : ℕ) (xs : List ℕ) (q : ℕ) → q < p → get_or (sets l p xs) q 0 ≡ get_or l q 0
sets_before l p [] q h = refl
sets_before l p (x ∷ xs) q h = sets_before (set l p x) (suc p) xs q (omega arith) ∙ get_or-set_other l p q x 0 (λ e. omega arith)

pub sets_after : (l : List ℕ) (p : ℕ) (xs : List ℕ) (q : ℕ) → p + length xs ≤ q → get_or (sets l p xs) q 0 ≡ get_or l q 0
sets_after l p [] q h = refl
sets_after l p (x ∷ xs) q h = sets_after (set l p x) (suc p) xs q (omega arith) ∙ get_or-set_other l p q x 0 (λ e. omega arith)

pub sets_there : (l : List ℕ) (p : ℕ) (xs : List ℕ) (k q : ℕ) → p + length xs ≤ length l → k < length xs → q ≡ p + k →
    get_or (sets l p xs) q 0 ≡ get_or xs k 0
sets_there l p [] k q h hk e = absurd (omega arith)
sets_there l p (x ∷ xs) zero q h hk e =
    sets_before (set l p x) (suc p) xs q (omega arith)
    ∙ ap (λ (r : ℕ). get_or (set l p x) r 0) (omega arith)
    ∙ get_or-set_same l p x 0 (omega arith)
sets_there l p (x ∷ xs) (suc k) q h hk e =
    sets_there (set l p x) (suc p) xs k q (omega (arith, length-set l p x)) (omega arith) (omega arith)
