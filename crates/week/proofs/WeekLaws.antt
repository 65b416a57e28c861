-- The laws of hours that stretches cover, and of hours that are counted.
-- Assumes nothing.
use Prim.Native.Nat.{ℕ, ◌+◌, ◌≤◌, ◌<◌, max, min}
use mathlib.Core.Bool.{Bool, true, false, ◌&&◌, ◌||◌}
use mathlib.Core.Logic.{⊎_elim}
use mathlib.Core.Path.{◌≡◌, refl, sym, ap, ◌∙◌}
use mathlib.Core.List.{List, [], ◌∷◌, ◌++◌}
use native.Mathlib.Omega.{arith}
use borrow.Author.Tests.{le-leb, lt-leb, lt-ltb, le-ltb}
use lib.Dec.{leb}
use mir.Val.{bool_byte}
use lib.ListN.{get_or, set, length, length-set}
use lib.Seq.{get_or-set_same, get_or-set_other}
use Rattle.grid.specs.Pick.{pick}
use Rattle.grid.specs.Sum.{sum}
use Rattle.grid.proofs.Cases.{lt_or_le, eq_or_ne}
use Rattle.grid.proofs.Sums.{sum_more, sum_same, sum_ones, sum_bound}
use Rattle.week.specs.Week.{Stretch, stretch, has, covered, hours_with, Marks}

and-false : (t : Bool) → (t && false) ≡ false
and-false true = refl
and-false false = refl

or_false : (t : Bool) → t ≡ (t || false)
or_false true = refl
or_false false = refl

or_true : (t : Bool) → true ≡ (t || true)
or_true true = refl
or_true false = refl

-- Whether an hour lies in a stretch, by its bounds.
module _ (first closing h : ℕ) where
  pub has_inside : first ≤ h → h < closing → has (stretch first closing) h ≡ true
  has_inside l r = rw (le-leb first h l, lt-ltb h closing r)

  has-outside : (first ≤ h → closing ≤ h) → has (stretch first closing) h ≡ false
  has-outside f = ⊎_elim
      (λ l. rw (lt-leb first h l))
      (λ l. rw (le-ltb h closing (f l)) (and-false (leb first h)))
      (lt_or_le h first)

-- Stretches that begin together, and of which neither has the hour or both have.
has_same : (first a b h : ℕ) → (first ≤ h → h < a → h < b) → (first ≤ h → h < b → h < a) →
    has (stretch first a) h ≡ has (stretch first b) h
has_same first a b h f g = ⊎_elim
    (λ l. has-outside first a h (λ e. absurd (omega arith)) ∙ sym (has-outside first b h (λ e. absurd (omega arith))))
    (λ l. ⊎_elim
    (λ r. has_inside first a h l r ∙ sym (has_inside first b h l (f l r)))
    (λ r. let late = ⊎_elim (λ e. absurd (omega (arith, g l e))) (λ e. e) (lt_or_le h b) in
    has-outside first a h (λ _. r) ∙ sym (has-outside first b h (λ _. late)))
    (lt_or_le h a))
    (lt_or_le h first)

-- A week in which the hours of a stretch are marked one after another, up to the hour h.
pub record Marked (week : List Bool) (first h : ℕ) (marked : List Bool) : Type 0 where
  pub long : length marked ≡ 168
  pub hours : Marks (λ x. get_or week x false || has (stretch first h) x) marked

pub marked-none : (week : List Bool) (first : ℕ) → length week ≡ 168 → Marked week first first week
marked-none week first long = record {
  long = long;
  hours = λ x _. or_false (get_or week x false) ∙ ap (λ (t : Bool). get_or week x false || t) (sym (has-outside first first x (λ l. l)));
}

pub marked_more : (week : List Bool) (first h : ℕ) (marked : List Bool) → first ≤ h → h < 168 → Marked week first h marked →
    Marked week first (h + 1) (set marked h true)
marked_more week first h marked l hh m = record {
  long = length-set marked h true ∙ m.long;
  hours = λ x hx. ⊎_elim
      (λ e. rw e (get_or-set_same marked h true false (omega (arith, m.long))
      ∙ or_true (get_or week h false)
      ∙ ap (λ (t : Bool). get_or week h false || t) (sym (has_inside first (h + 1) h l (omega arith)))))
      (λ ne. get_or-set_other marked h x true false ne
      ∙ m.hours x hx
      ∙ ap (λ (t : Bool). get_or week x false || t) (has_same first h (h + 1) x (λ _ r. omega arith) (λ _ r. omega (arith, ne))))
      (eq_or_ne x h);
}

pub marked_all : (week : List Bool) (first closing end h : ℕ) (marked : List Bool) → end ≡ min closing 168 → end ≤ h →
    h ≤ max first end → Marked week first h marked →
    Marks (λ x. get_or week x false || has (stretch first closing) x) marked
marked_all week first closing end h marked e l f m x hx =
    m.hours x hx
    ∙ ap (λ (t : Bool). get_or week x false || t) (has_same first h closing x (λ a r. omega arith) (λ a r. omega arith))

-- An hour that one stretch more covers.
pub covered_none : (h : ℕ) → false ≡ covered [] h
unfolding covered
covered_none h = refl

or_assoc : (a b c : Bool) → (a || (b || c)) ≡ ((a || b) || c)
or_assoc true b c = refl
or_assoc false b c = refl

pub covered_more : (ss : List Stretch) (s : Stretch) (h : ℕ) → (covered ss h || has s h) ≡ covered (ss ++ (s ∷ [])) h
unfolding covered
covered_more [] s h = or_false (has s h)
covered_more (r ∷ ss) s h = sym (or_assoc (has r h) (covered ss h) (has s h)) ∙ ap (λ (t : Bool). has r h || t) (covered_more ss s h)

-- Hours that are counted one after another, and all of them.
abbrev pub count_to : (ℕ → Bool) → ℕ → ℕ
count_to test h = sum (λ x. pick (test x) 1 0) h

pub count_more : (test : ℕ → Bool) (h count : ℕ) (t : Bool) → count ≡ count_to test h → t ≡ test h →
    count + pick t 1 0 ≡ count_to test (h + 1)
count_more test h count t e f = rw f (omega (arith, sum_more (λ x. pick (test x) 1 0) h))

one_at_most : (t : Bool) → pick t 1 0 ≤ 1
one_at_most true = omega arith
one_at_most false = omega arith

pub count_few : (test : ℕ → Bool) (h : ℕ) → count_to test h ≤ h
count_few test h = omega (arith, sum_bound (λ x. pick (test x) 1 0) 1 h (λ x _. one_at_most (test x)))

-- A mark as a number of 8 bits.
pub byte_pick : (t : Bool) → (bool_byte t ≡ pick t 1 0) × (bool_byte t ≤ 1)
byte_pick true = (refl, omega arith)
byte_pick false = (refl, omega arith)

-- The same hours are as many, and all hours of the week are 168.
pub hours-same : (f g : ℕ → Bool) → ((h : ℕ) → h < 168 → f h ≡ g h) → hours_with f ≡ hours_with g
hours-same f g e = sum_same _ _ 168 (λ h l. ap (λ (t : Bool). pick t 1 0) (e h l))

pub all_hours : (f : ℕ → Bool) → ((h : ℕ) → h < 168 → f h ≡ true) → hours_with f ≡ 168
all_hours f e = sum_same _ _ 168 (λ h l. ap (λ (t : Bool). pick t 1 0) (e h l)) ∙ sum_ones 168
