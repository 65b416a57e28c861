-- What is written in two goes is written in one, in either order, and can be read again.
-- Assumes nothing.
use mathlib.Core.Path.{◌≡◌, refl, ap, ◌∙◌}
use mathlib.Core.List.{List, [], ◌∷◌, ◌++◌, append_assoc}
use Prim.Native.Nat.{ℕ, suc, ◌+◌, ◌-◌, ◌≤◌, ◌<◌}
use native.Mathlib.Numerals.{add-one}
use native.Mathlib.Omega.{arith}
use lib.ListN.{length, set, get_or, take, drop, length-append}
use lib.Seq.{sets, sets-eq, length-sets, set_comm, take-suc, take_all, take_at, drop_at, length-take-le}
use Rattle.ascii.specs.Writing.{Wrote}

pub sets_append : (l : List ℕ) (i : ℕ) (x y : List ℕ) → sets (sets l i x) (i + length x) y ≡ sets l i (x ++ y)
sets_append l i [] y = let e : i + 0 ≡ i = omega arith in rw e
sets_append l i (a ∷ x) y =
    let e : i + suc (length x) ≡ suc i + length x = omega arith in rw e (sets_append (set l i a) (suc i) x y)

pub wrote_nothing : (page : List ℕ) (at : ℕ) → Wrote page page at at []
wrote_nothing page at = record { stored = refl; ends = omega arith }

module _ {l l₁ l₂ : List ℕ} {from at end : ℕ} {x y : List ℕ} where
  pub wrote_then : Wrote l l₁ from at x → Wrote l₁ l₂ at end y → Wrote l l₂ from end (x ++ y)
  wrote_then w v = record {
    stored = v.stored ∙ rw (w.stored, w.ends) (sets_append l from x y);
    ends = omega (arith, w.ends, v.ends, length-append x y);
  }

pub wrote_same : {l l₁ : List ℕ} {from end : ℕ} {x : List ℕ} (y : List ℕ) → x ≡ y → Wrote l l₁ from end x → Wrote l l₁ from end y
wrote_same y e w = rw (← e) w

pub wrote_length : {l l₁ : List ℕ} {from end : ℕ} {x : List ℕ} → Wrote l l₁ from end x → length l₁ ≡ length l
wrote_length {l} {l₁} {from} {end} {x} w = ap length w.stored ∙ length-sets l from x

-- what was written, read again
pub wrote_part : {l l₁ : List ℕ} {from end : ℕ} {x : List ℕ} → Wrote l l₁ from end x → end ≤ length l → take (end - from) (drop from l₁) ≡ x
wrote_part {l} {l₁} {from} {end} {x} w fits =
    let long : from + length x ≤ length l = omega (arith, w.ends) in
    let rest = drop (from + length x) l in
    ap (λ (m : List ℕ). take (end - from) (drop from m)) (w.stored ∙ sets-eq x l from long ∙ append_assoc (take from l) x rest)
    ∙ ap (take (end - from)) (drop_at (take from l) (x ++ rest) from (length-take-le from l (omega arith)))
    ∙ take_at x rest (end - from) (omega (arith, w.ends))

-- a byte written before others
set_before : (l : List ℕ) (i j b : ℕ) (x : List ℕ) → i < j → set (sets l j x) i b ≡ sets (set l i b) j x
set_before l i j b [] h = refl
set_before l i j b (a ∷ x) h =
    set_before (set l j a) i (suc j) b x (omega arith)
    ∙ ap (λ (m : List ℕ). sets m (suc j) x) (set_comm l j i a b (λ e. omega arith))

pub wrote_before : {l l₁ : List ℕ} {at end : ℕ} {x : List ℕ} → Wrote l l₁ (at + 1) end x → (b : ℕ) → Wrote l (set l₁ at b) at end (b ∷ x)
wrote_before {l} {l₁} {at} {end} {x} w b = record {
  stored = rw (w.stored, add-one at) (set_before l at (suc at) b x (omega arith));
  ends = omega (arith, w.ends);
}

-- byte by byte: the first k of some bytes
module _ {l l₁ : List ℕ} {from at : ℕ} (bytes : List ℕ) (k : ℕ) (w : Wrote l l₁ from at (take k bytes)) where
  pub wrote_room : (room : ℕ) → k < length bytes → from + length bytes ≤ room → at < room
  wrote_room room h r = omega (arith, w.ends, length-take-le k bytes (omega arith))

  pub wrote_more : (l₂ : List ℕ) (end b : ℕ) → k < length bytes → b ≡ get_or bytes k 0 → Wrote l₁ l₂ at end (b ∷ []) →
      Wrote l l₂ from end (take (k + 1) bytes)
  wrote_more l₂ end b h e v = wrote_same _ (rw (add-one k, take-suc bytes k 0 h, e)) (wrote_then w v)

  pub wrote_all : length bytes ≤ k → Wrote l l₁ from at bytes
  wrote_all h = rw (take_all k bytes h) at w
