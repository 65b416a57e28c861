-- Words, numbers and entries read from a text.
-- Assumes nothing.
use mathlib.Core.Path.{◌≡◌, refl, ap, ◌∙◌}
use mathlib.Core.Bool.{Bool, true, false, cond, ◌&&◌}
use mathlib.Core.List.{List, [], ◌∷◌}
use Prim.Native.Nat.{ℕ, suc, ◌+◌, ◌≤◌, ◌<◌}
use native.Mathlib.Numerals.{add-one}
use native.Mathlib.Omega.{arith}
use lib.Dec.{eqb}
use lib.ListN.{length, get_or, drop, length-drop, drop_of_length-le}
use lib.Seq.{drop-cons, drop-drop}
use Rattle.layouts.specs.declared.reading.Step.{Step}
use Rattle.layouts.specs.declared.reading.Step.TheVariants.{More, Ends}
use Rattle.std.specs.Prelude.{Option, Some, None}
use Rattle.std.specs.List.{starts_with as starts_in}
use Rattle.labels.specs.declared.places.Layout.{Layout}
use Rattle.labels.specs.Words.{label}
use Rattle.layouts.specs.Reading.{starts_with, NoNumber, NumberIs, step_of, after_step, digits_read, entry_read}
use Rattle.layouts.specs.Answer.{got_of}
use Rattle.grid.proofs.Cases.{never}
use Rattle.groups.proofs.Ends.{EndOf, end_self, end_next, end_trans}

-- what std finds at the front of a text
pub front_told : (ws s : List ℕ) → starts_in eqb s ws ≡ starts_with ws s
front_told [] s = refl
front_told (w ∷ ws) [] = refl
front_told (w ∷ ws) (b ∷ s) = ap (λ (t : Bool). eqb w b && t) (front_told ws s)

-- The digits of a number: after those before k the number so far and what is left make the whole.
digits_more : (v : ℕ) (seen : Bool) (b : ℕ) (rest : List ℕ) →
    digits_read v seen (b ∷ rest) ≡ after_step (step_of v seen b) v rest (λ x. digits_read x true rest)
unfolding digits_read
digits_more v seen b rest = refl

pub record Digits (text : List ℕ) (at v : ℕ) (seen : Bool) (k : ℕ) : Type 0 where
  pub same : digits_read 0 false (drop at text) ≡ digits_read v seen (drop k text)

pub digits_begin : (text : List ℕ) (at : ℕ) → Digits text at 0 false at
digits_begin text at = record { same = refl }

module _ {text : List ℕ} {at v : ℕ} {seen : Bool} {k : ℕ} (d : Digits text at v seen k) where
  module _ (h : k < length text) (s : Option Step) (e : s ≡ step_of v seen (get_or text k 0)) where
    after : digits_read 0 false (drop at text) ≡ after_step s v (drop (suc k) text) (λ x. digits_read x true (drop (suc k) text))
    after = d.same ∙ rw (drop-cons text k 0 h, digits_more v seen (get_or text k 0) (drop (suc k) text), e)

    pub digits_turn : (x : ℕ) → s ≡ Some (More x) → Digits text at x true (k + 1)
    digits_turn x f = record { same = after ∙ rw (f, add-one k) }

    pub digits_end : s ≡ Some Ends → Some (v, k + 1) ≡ got_of (length text) (digits_read 0 false (drop at text))
    digits_end f = rw (after, f, length-drop (suc k) text) (ap (λ (e : ℕ). Some (v, e)) (omega arith))

    pub digits_stop : s ≡ None → None ≡ got_of (length text) (digits_read 0 false (drop at text))
    digits_stop f = rw (after, f)

  pub digits_none : length text ≤ k → None ≡ got_of (length text) (digits_read 0 false (drop at text))
  unfolding digits_read
  digits_none h = rw (d.same, drop_of_length-le text h)

and_true : (a b : Bool) → (a && b) ≡ true → b ≡ true
and_true true b e = e
and_true false b e = never cc

-- what begins with words is as long
pub starts_long : (ws s : List ℕ) → starts_with ws s ≡ true → length ws ≤ length s
starts_long [] s e = omega arith
starts_long (w ∷ ws) [] e = never cc
starts_long (w ∷ ws) (b ∷ s) e = omega (arith, starts_long ws s (and_true (eqb w b) (starts_with ws s) e))

-- What is left after a number is an end of the text.
pub digits_left : (s : List ℕ) (v : ℕ) (seen : Bool) (x : ℕ) (rest : List ℕ) → digits_read v seen s ≡ NumberIs x rest → EndOf rest s
unfolding digits_read
digits_left [] v seen x rest e = never cc
digits_left (b ∷ s) v seen x rest e = go (λ y f. digits_left s y true x rest f) (step_of v seen b) e
  where
    go : ((y : ℕ) → digits_read y true s ≡ NumberIs x rest → EndOf rest s) → (t : Option Step) →
        after_step t v s (λ y. digits_read y true s) ≡ NumberIs x rest → EndOf rest (b ∷ s)
    go more (Some (More y)) f = end_next rest s b (more y f)
    go more (Some Ends) f = let r : rest ≡ s = cc in rw r (end_next s s b (end_self s))
    go more None f = never cc

pub entry_left : (l : Layout) (n m p : ℕ) (s : List ℕ) (x : ℕ) (rest : List ℕ) → entry_read l n m p s ≡ NumberIs x rest → EndOf rest s
entry_left l n m p s x rest e = go (starts_with (label l n m p) s) refl e
  where
    go : (t : Bool) → starts_with (label l n m p) s ≡ t →
        cond t (digits_read 0 false (drop (length (label l n m p)) s)) NoNumber ≡ NumberIs x rest → EndOf rest s
    go true f g =
        let long = starts_long (label l n m p) s f in
        end_trans rest (drop (length (label l n m p)) s) s (digits_left (drop (length (label l n m p)) s) 0 false x rest g)
        record { at = length (label l n m p); within = long; same = refl }
    go false f g = never cc

-- An entry, by the words of its label.
module _ (l : Layout) (n m p : ℕ) (text : List ℕ) (at : ℕ) (words : List ℕ) (is : words ≡ label l n m p) where
  pub entry_there : starts_with words (drop at text) ≡ true →
      got_of (length text) (digits_read 0 false (drop (at + length words) text)) ≡ got_of (length text) (entry_read l n m p (drop at text))
  entry_there e = rw (← is, e, drop-drop (length words) at text)

  pub entry_missing : starts_with words (drop at text) ≡ false → None ≡ got_of (length text) (entry_read l n m p (drop at text))
  entry_missing e = rw (← is, e)
