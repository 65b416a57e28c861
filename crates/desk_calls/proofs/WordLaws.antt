-- Laws of words: the words of a line one after another.
-- Assumes nothing.
use Prim.Native.Nat.{ℕ, suc, ◌+◌, ◌-◌, ◌≤◌, ◌<◌}
use mathlib.Core.Path.{◌≡◌, refl, ap, ◌∙◌}
use mathlib.Core.List.{List, [], ◌∷◌}
use mathlib.Core.Bool.{Bool, true, false, cond}
use native.Mathlib.Omega.{arith}
use borrow.Author.Tests.{ltb-false}
use lib.Dec.{ltb}
use Rattle.std.specs.Prelude.{not, Option, Some, None, unwrap_or}
use Rattle.std.specs.List.{prefix_len, position_or_len}
use lib.ListN.{length, take, drop, length-drop}
use lib.Seq.{take_all}
use Rattle.desk_calls.specs.Words.{word, first_word, after_word}

-- what a slice from a place on holds
pub rest_is : (xs : List ℕ) (k : ℕ) → take (length xs - k) (drop k xs) ≡ drop k xs
rest_is xs k = take_all (length xs - k) (drop k xs) (omega (arith, length-drop k xs))

-- one word on
pub word_next : (text later : List ℕ) (place k : ℕ) → k < place → later ≡ after_word text →
    word later (place - (k + 1)) ≡ word text (place - k)
unfolding word
word_next text later place k h e = let n : place - k ≡ suc (place - (k + 1)) = omega arith in rw (n, e) refl

-- the word at the place itself
pub word_there : (text : List ℕ) (place k : ℕ) → place ≤ k → word text (place - k) ≡ first_word text
unfolding word
word_there text place k h = let n : place - k ≡ 0 = omega arith in rw n refl

prefix_short : (p : ℕ → Bool) (xs : List ℕ) → prefix_len p xs ≤ length xs
prefix_short p [] = omega arith
prefix_short p (x ∷ xs) = go (p x) (prefix_short p xs)
  where
    go : (b : Bool) → prefix_len p xs ≤ length xs → cond b (1 + prefix_len p xs) 0 ≤ suc (length xs)
    go true h = omega (arith, h)
    go false h = omega arith

-- the place that a search finds, or the length
module _ (t : ℕ → Bool) (text : List ℕ) where
  pub place_told : (r : Option ℕ) (n : ℕ) → r ≡ cond (ltb (position_or_len t text) (length text)) (Some (position_or_len t text)) None →
      n ≡ unwrap_or r (length text) → (n ≡ position_or_len t text) × (n ≤ length text)
  place_told r n e f = go (ltb (position_or_len t text) (length text)) refl (f ∙ ap (λ (o : Option ℕ). unwrap_or o (length text)) e)
    where
      short : position_or_len t text ≤ length text
      short = prefix_short (λ b. not (t b)) text

      go : (b : Bool) → ltb (position_or_len t text) (length text) ≡ b →
          n ≡ unwrap_or (cond b (Some (position_or_len t text)) None) (length text) → (n ≡ position_or_len t text) × (n ≤ length text)
      go true l g = (g, omega (arith, g, short))
      go false l g = let h = ltb-false (position_or_len t text) (length text) l in (omega (arith, g, h, short), omega (arith, g))
