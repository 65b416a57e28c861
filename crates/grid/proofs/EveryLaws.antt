-- The laws of a test that holds at every place.
-- Assumes nothing.
use Prim.Native.Nat.{ℕ, zero, suc, ◌+◌, ◌<◌}
use mathlib.Core.Path.{◌≡◌, refl}
use mathlib.Core.Bool.{Bool, true, false, ◌&&◌}
use mathlib.Core.Logic.{⊎_elim}
use native.Mathlib.Numerals.{add-one}
use native.Mathlib.Omega.{arith}
use Rattle.grid.specs.Every.{every}
use Rattle.grid.proofs.Cases.{never, eq_or_ne}

-- what a loop starts with, and what its turn does
pub every-none : (f : ℕ → Bool) → every f 0 ≡ true
unfolding every
every-none f = refl

pub every_turn : (f : ℕ → Bool) (k : ℕ) (a b : Bool) → a ≡ every f k → b ≡ f k → (a && b) ≡ every f (k + 1)
unfolding every
every_turn f k a b ea eb = rw (add-one k, ea, eb)

-- and what its end leaves
pub every_end : (f : ℕ → Bool) (k n : ℕ) (a : Bool) → k ≡ n → a ≡ every f k → a ≡ every f n
every_end f k n a e ea = rw (← e) ea

-- both of two tests that hold together hold
pub both_hold : (a b : Bool) → (a && b) ≡ true → (a ≡ true) × (b ≡ true)
both_hold true b e = (refl, e)
both_hold false b e = never cc

pub every-at : (f : ℕ → Bool) (k p : ℕ) → every f k ≡ true → p < k → f p ≡ true
unfolding every
every-at f zero p e h = absurd (omega arith)
every-at f (suc k) p e h =
    let parts = both_hold (every f k) (f k) e in
    ⊎_elim (λ same. rw same parts.1) (λ other. every-at f k p parts.0 (omega arith)) (eq_or_ne p k)

pub every-same : (f g : ℕ → Bool) (k : ℕ) → ((p : ℕ) → p < k → f p ≡ g p) → every f k ≡ every g k
unfolding every
every-same f g zero e = refl
every-same f g (suc k) e = rw (every-same f g k (λ p h. e p (omega arith)), e k (omega arith))
