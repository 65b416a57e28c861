-- A text read byte by byte: what is left, read from here on, makes the whole.
-- Assumes nothing.
use mathlib.Core.Path.{◌≡◌, refl, sym, ap, ◌∙◌}
use mathlib.Core.Bool.{Bool, true, false, ◌&&◌}
use mathlib.Core.List.{List, [], ◌∷◌, ◌++◌, append_assoc}
use Prim.Native.Nat.{ℕ, suc, ◌+◌, ◌≤◌, ◌<◌}
use native.Mathlib.Numerals.{add-one}
use native.Mathlib.Omega.{arith}
use borrow.Author.Tests.{le-leb, lt-leb}
use lib.ListN.{length, get_or, set, drop, length-append, drop_of_length-le}
use lib.Seq.{sets, length-sets, drop-cons}
use Rattle.lists.specs.declared.text.Kind.{Kind}
use Rattle.lists.specs.declared.text.Kind.TheVariants.{LineEnd, Blank, Hash, Digit, Other}
use Rattle.lists.specs.declared.text.Mode.{Mode}
use Rattle.lists.specs.declared.text.Mode.TheVariants.{Gap, Comment, Number}
use Rattle.lists.specs.declared.text.ListError.{ListError}
use Rattle.std.specs.Prelude.{Option, Some, None, Result, Ok, Err}
use Rattle.lists.specs.NumberText as text
use Rattle.lists.specs.NumberText.{kind_of, next_mode, ended, last, numbers_in, line_ends, with, read_from, numbers_of}
use Rattle.lists.specs.Listing.{Walked, list_reply, list_kept}

pub both_left : (a b : Bool) → (a && b) ≡ true → a ≡ true
both_left true b e = refl
both_left false b e = e

-- a store after a store
sets_append : (l : List ℕ) (i : ℕ) (x y : List ℕ) → sets (sets l i x) (i + length x) y ≡ sets l i (x ++ y)
sets_append l i [] y = let e : i + 0 ≡ i = omega arith in rw e
sets_append l i (a ∷ x) y =
    let e : i + suc (length x) ≡ suc i + length x = omega arith in rw e (sets_append (set l i a) (suc i) x y)

with-with : (xs ys : List ℕ) (l : text.Listing) → with xs (with ys l) ≡ with (xs ++ ys) l
with-with xs ys (text.WrongLine line) = refl
with-with xs ys (text.Listed zs) = ap text.Listed (sym (append_assoc xs ys zs))

-- Numbers are fewer than bytes: one that ends here began before, and one that begins here has not ended.

abbrev pub waiting : Mode → ℕ
waiting mode = length (numbers_in (last mode))

waiting_one : (mode : Mode) → waiting mode ≤ 1
waiting_one Gap = omega arith
waiting_one Comment = omega arith
waiting_one (Number value) = omega arith

comment_ends_none : (kind : Kind) → length (numbers_in (ended Comment kind)) ≡ 0
comment_ends_none LineEnd = refl
comment_ends_none Blank = refl
comment_ends_none Hash = refl
comment_ends_none (Digit digit) = refl
comment_ends_none Other = refl

few_outside : (value : ℕ) (mode after : Mode) (kind : Kind) → text.outside value kind ≡ Some after →
    length (numbers_in (ended mode kind)) + waiting after ≤ waiting mode + 1
few_outside value mode after LineEnd e = let f : after ≡ Gap = cc in rw f (omega arith)
few_outside value mode after Blank e = let f : after ≡ Gap = cc in rw f (omega arith)
few_outside value mode after Hash e = let f : after ≡ Comment = cc in rw f (omega arith)
few_outside value mode after (Digit digit) e = omega (arith, waiting_one after)
few_outside value mode after Other e = let z : ◌≡◌ {A = ℕ} 0 1 = cc in absurd (omega arith)

few : (mode after : Mode) (kind : Kind) → next_mode mode kind ≡ Some after →
    length (numbers_in (ended mode kind)) + waiting after ≤ waiting mode + 1
few Gap after kind e = few_outside 0 Gap after kind e
few Comment after kind e = omega (arith, waiting_one after, comment_ends_none kind)
few (Number value) after kind e = few_outside value (Number value) after kind e

lines_few : (kind : Kind) → line_ends kind ≤ 1
lines_few LineEnd = omega arith
lines_few Blank = omega arith
lines_few Hash = omega arith
lines_few (Digit digit) = omega arith
lines_few Other = omega arith

read_end : (mode : Mode) (passed : ℕ) → read_from mode passed [] ≡ text.Listed (numbers_in (last mode))
unfolding read_from
read_end mode passed = refl

read_stop : (mode : Mode) (passed b : ℕ) (rest : List ℕ) → next_mode mode (kind_of b) ≡ None →
    read_from mode passed (b ∷ rest) ≡ text.WrongLine (passed + 1)
unfolding read_from
read_stop mode passed b rest e = rw e

read_on : (mode after : Mode) (passed b : ℕ) (rest : List ℕ) → next_mode mode (kind_of b) ≡ Some after →
    read_from mode passed (b ∷ rest) ≡ with (numbers_in (ended mode (kind_of b))) (read_from after (passed + line_ends (kind_of b)) rest)
unfolding read_from
read_on mode after passed b rest e = rw e

listed_same : (xs ys : List ℕ) → text.Listed xs ≡ text.Listed ys → xs ≡ ys
listed_same xs ys e = cc

wrong_not_listed : (line : ℕ) (xs : List ℕ) → text.WrongLine line ≡ text.Listed xs → ⊥
wrong_not_listed line xs e = let z : ◌≡◌ {A = ℕ} 0 1 = cc in omega arith

-- After k bytes.
pub record Reading (s list₀ list : List ℕ) (mode : Mode) (passed count k : ℕ) : Type 0 where
  -- the numbers that have ended
  pub numbers : List ℕ
  pub same : numbers_of s ≡ with numbers (read_from mode passed (drop k s))
  pub stored : list ≡ sets list₀ 0 numbers
  pub counted : count ≡ length numbers
  pub few : count + waiting mode ≤ k
  pub lines : passed ≤ k

with_none : (l : text.Listing) → l ≡ with [] l
with_none (text.WrongLine line) = refl
with_none (text.Listed xs) = refl

pub reading_starts : (s list : List ℕ) → Reading s list list Gap 0 0 0
reading_starts s list = record {
  numbers = [];
  same = with_none (read_from Gap 0 s);
  stored = refl;
  counted = refl;
  few = omega arith;
  lines = omega arith;
}

module _ {s list₀ list : List ℕ} {mode : Mode} {passed count k : ℕ} (r : Reading s list₀ list mode passed count k) where
  pub reading_turns : (list₁ : List ℕ) (kind : Kind) (after : Mode) (count₁ passed₁ : ℕ) → k < length s → kind ≡ kind_of (get_or s k 0) →
      next_mode mode kind ≡ Some after → list₁ ≡ sets list count (numbers_in (ended mode kind)) →
      count₁ ≡ count + length (numbers_in (ended mode kind)) → passed₁ ≡ passed + line_ends kind → Reading s list₀ list₁ after passed₁
      count₁ (k + 1)
  reading_turns list₁ kind after count₁ passed₁ h ek en es ec ep =
      let more = numbers_in (ended mode kind) in
      let e : count ≡ 0 + length r.numbers = omega (arith, r.counted) in
      let there : read_from mode passed (drop k s) ≡ with more (read_from after passed₁ (drop (k + 1) s)) =
      rw (ep, add-one k, drop-cons s k 0 h, ek) (read_on mode after passed (get_or s k 0) _ (rw ek at en)) in
      record {
        numbers = r.numbers ++ more;
        same = r.same ∙ ap (with r.numbers) there ∙ with-with r.numbers more (read_from after passed₁ (drop (k + 1) s));
        stored = rw (es, r.stored, e) (sets_append list₀ 0 r.numbers more);
        counted = omega (arith, ec, r.counted, length-append r.numbers more);
        few = omega (arith, ec, r.few, few mode after kind en);
        lines = omega (arith, ep, r.lines, lines_few kind);
      }

  pub reading_stops : (list₁ : List ℕ) (kind : Kind) → k < length s → kind ≡ kind_of (get_or s k 0) → next_mode mode kind ≡ None →
      Walked (numbers_of s) list₀ list₁ (Err (ListError.Wrong (passed + 1)))
  reading_stops list₁ kind h ek en =
      let f : numbers_of s ≡ text.WrongLine (passed + 1) =
      r.same ∙ rw (drop-cons s k 0 h, read_stop mode passed (get_or s k 0) (drop (suc k) s) (rw ek at en)) in
      record { answer = rw f; stored = λ xs e. absurd (wrong_not_listed (passed + 1) xs (sym f ∙ e)) }

  reading_ends : length s ≤ k → numbers_of s ≡ text.Listed (r.numbers ++ numbers_in (last mode))
  reading_ends h = r.same ∙ rw (drop_of_length-le s h, read_end mode passed)

  pub reading_length : length list ≡ length list₀
  reading_length = ap length r.stored ∙ length-sets list₀ 0 r.numbers

  -- the store of a number that has ended does not wrap the count
  pub reading_room : (kind : Kind) (after : Mode) (g : Option ℕ) → next_mode mode kind ≡ Some after → g ≡ ended mode kind →
      count + length (numbers_in g) ≤ k + 1
  reading_room kind after g en eg = rw eg (omega (arith, r.few, few mode after kind en))

  pub reading_last_room : (g : Option ℕ) → g ≡ last mode → count + length (numbers_in g) ≤ k
  reading_last_room g eg = rw eg r.few

  pub reading_done : (list₁ : List ℕ) (g : Option ℕ) (count₁ : ℕ) → length s ≤ k → g ≡ last mode → list₁ ≡ sets list count (numbers_in g) →
      count₁ ≡ count + length (numbers_in g) → Walked (numbers_of s) list₀ list₁ (Ok count₁)
  reading_done list₁ g count₁ h eg es ec =
      let more = numbers_in (last mode) in
      let e : count ≡ 0 + length r.numbers = omega (arith, r.counted) in
      let f = reading_ends h in
      record {
        answer = rw f (ap (λ (k : ℕ). Ok k) (rw (ec, eg) (omega (arith, r.counted, length-append r.numbers more))));
        stored = λ xs g. rw (← listed_same (r.numbers ++ more) xs (sym f ∙ g), es, eg, r.stored, e)
            (sets_append list₀ 0 r.numbers more);
      }

-- A first walk, into a list of no interest, tells how many numbers there are. The lent list is then as long as that, or too short.

module _ {first-lent first-after : List ℕ} {seen : Result ℕ ListError} (lent : List ℕ) where
  pub answer_wrong : (l : text.Listing) → Walked l first-lent first-after seen → (line : ℕ) → seen ≡ Err (ListError.Wrong line) →
      (Err (ListError.Wrong line) ≡ list_reply (length lent) l) × (lent ≡ list_kept lent l)
  answer_wrong (text.WrongLine n) w line e = (sym e ∙ w.answer, refl)
  answer_wrong (text.Listed xs) w line e = let f = w.answer in let z : ◌≡◌ {A = ℕ} 0 1 = cc in absurd (omega arith)

  pub answer_short : (l : text.Listing) → Walked l first-lent first-after seen → (count : ℕ) → seen ≡ Ok count → length lent <
      count →
      (Err ListError.NoRoom ≡ list_reply (length lent) l) × (lent ≡ list_kept lent l)
  answer_short (text.WrongLine n) w count e h = let f = w.answer in let z : ◌≡◌ {A = ℕ} 0 1 = cc in absurd (omega arith)
  answer_short (text.Listed xs) w count e h =
      let g = w.answer in
      let f : count ≡ length xs = cc in
      rw (lt-leb (length xs) (length lent) (omega arith)) (refl, refl)

  pub answer_done : (l : text.Listing) → Walked l first-lent first-after seen → (count : ℕ) → seen ≡ Ok count →
      count ≤ length lent → {after : List ℕ} {r : Result ℕ ListError} → Walked l lent after r → (r ≡ list_reply (length lent) l) ×
      (after ≡ list_kept lent l)
  answer_done (text.WrongLine n) w count e h v = let f = w.answer in let z : ◌≡◌ {A = ℕ} 0 1 = cc in absurd (omega arith)
  answer_done (text.Listed xs) w count e h v =
      let g = w.answer in
      let f : count ≡ length xs = cc in
      rw (le-leb (length xs) (length lent) (omega arith)) (v.answer, v.stored xs refl)
