-- The numbers of a squeezed text, one after another: what is left, read from here on, makes the whole.
-- Assumes nothing.
use mathlib.Core.Path.{◌≡◌, refl, sym, ap, ◌∙◌}
use mathlib.Core.List.{List, [], ◌∷◌, ◌++◌}
use Prim.Native.Nat.{ℕ, suc, ◌+◌, ◌-◌, ◌≤◌, ◌<◌}
use native.Mathlib.Numerals.{add-one}
use native.Mathlib.Omega.{arith}
use lib.ListN.{length, get_or, drop, take, set, length-drop, length-set, drop_of_length-le}
use lib.Seq.{drop-cons, take-suc, take-set-le, get_or-set_same, length-take-le}
use Rattle.grid.proofs.Cases.{never}
use Rattle.groups.proofs.Ends.{end_trans, end_place}
use Rattle.labels.specs.declared.places.Layout.{Layout}
use Rattle.std.specs.Prelude.{Option, Some, None, Ok, Err}
use Rattle.layouts.specs.Text.{growers_in, pilots_in}
use Rattle.layouts.specs.Reading.{NumberRead, NoNumber, NumberIs, entry_read, Stopped, Whole, further, entries_from, entries_in}
use Rattle.layouts.specs.Reading.{most_numbers}
use Rattle.layouts.specs.Answer.{got_of, WalkedAs}
use Rattle.layouts.proofs.ReadingLaws.{entry_left}

pub entries_more : (k : ℕ) (l : Layout) (xs : List ℕ) (b : ℕ) (s : List ℕ) →
    entries_from (suc k) l xs (b ∷ s)
    ≡ further (b ∷ s) (entry_read l (growers_in xs) (pilots_in xs) (length xs) (b ∷ s)) (λ x rest. entries_from k l (xs ++ (x ∷ [])) rest)
unfolding entries_from
entries_more k l xs b s = refl

pub entries_none : (k : ℕ) (l : Layout) (xs : List ℕ) → entries_from (suc k) l xs [] ≡ Whole xs
unfolding entries_from
entries_none k l xs = refl

-- The number of what was read, and the place after it.
abbrev value_in : Option (ℕ × ℕ) → ℕ
value_in None = 0
value_in (Some got) = got.0

abbrev place_in : Option (ℕ × ℕ) → ℕ
place_in None = 0
place_in (Some got) = got.1

-- After k numbers.
pub record Walking (l : Layout) (text list : List ℕ) (at k : ℕ) : Type 0 where
  pub within : at ≤ length text
  pub same : entries_in l text ≡ entries_from (most_numbers - k) l (take k list) (drop at text)

pub walking_starts : (l : Layout) (text list : List ℕ) → Walking l text list 0 0
walking_starts l text list = record { within = omega arith; same = refl }

-- a stored number makes the list of those before it longer
take_more : (list : List ℕ) (k x : ℕ) → k < length list → take (suc k) (set list k x) ≡ take k list ++ (x ∷ [])
take_more list k x h =
    take-suc (set list k x) k 0 (rw (length-set list k x) h) ∙ rw (take-set-le k list k x (omega arith), get_or-set_same list k x 0 h)

whole_same : (xs ys : List ℕ) → Whole xs ≡ Whole ys → xs ≡ ys
whole_same xs ys e = cc

module _ {l : Layout} {text list : List ℕ} {at k : ℕ} (w : Walking l text list at k) where
  -- nothing is left of the text
  pub walking_ends : length list ≡ most_numbers → k < most_numbers → length text ≤ at → WalkedAs (length text) (entries_in l text) list (Ok k)
  walking_ends long h e =
      let fuel : most_numbers - k ≡ suc (most_numbers - suc k) = omega arith in
      let is : entries_in l text ≡ Whole (take k list) =
      w.same ∙ rw (fuel, drop_of_length-le text e, entries_none (most_numbers - suc k) l (take k list)) in
      let count = length-take-le k list (omega arith) in
      record {
        answer = rw (is, count);
        stored = λ xs f. let s = whole_same (take k list) xs (sym is ∙ f) in rw (← s, count);
      }

  stopped_as : entries_in l text ≡ Stopped (drop at text) → WalkedAs (length text) (entries_in l text) list (Err at)
  stopped_as e =
      let n = w.within in
      record {
        answer = rw (e, length-drop at text) (ap (λ (e : ℕ). Err e) (omega arith));
        stored = λ xs f. never (let g = sym e ∙ f in cc);
      }

  pub walking_full : most_numbers ≤ k → WalkedAs (length text) (entries_in l text) list (Err at)
  unfolding entries_from
  walking_full h = let fuel : most_numbers - k ≡ 0 = omega arith in stopped_as (w.same ∙ rw fuel)

  module _ (long : length list ≡ most_numbers) (h : k < most_numbers) (e : at < length text) where
    abbrev read : NumberRead
    read = entry_read l (growers_in (take k list)) (pilots_in (take k list)) k (drop at text)

    on : entries_in l text
        ≡ further (drop at text) read (λ x rest. entries_from (most_numbers - suc k) l (take k list ++ (x ∷ [])) rest)
    on =
        let fuel : most_numbers - k ≡ suc (most_numbers - suc k) = omega arith in
        let count = length-take-le k list (omega arith) in
        w.same
        ∙ rw (fuel, drop-cons text at 0 e, entries_more (most_numbers - suc k) l (take k list) (get_or text at 0) (drop (suc at) text), count)

    pub walking_stops : None ≡ got_of (length text) read → WalkedAs (length text) (entries_in l text) list (Err at)
    walking_stops g = go read refl g
      where
        go : (r : NumberRead) → read ≡ r → None ≡ got_of (length text) r →
            WalkedAs (length text) (entries_in l text) list (Err at)
        go NoNumber f g = stopped_as (on ∙ rw f)
        go (NumberIs x rest) f g = never cc

    pub walking_turns : (x next : ℕ) → Some (x, next) ≡ got_of (length text) read → Walking l text (set list k x) next (k + 1)
    walking_turns x next g = go read refl g
      where
        go : (r : NumberRead) → read ≡ r → Some (x, next) ≡ got_of (length text) r → Walking l text (set list k x) next (k + 1)
        go NoNumber f g = never cc
        go (NumberIs y rest) f g =
            let same : x ≡ y = ap value_in g in
            let place : next ≡ length text - length rest = ap place_in g in
            let left = entry_left l (growers_in (take k list)) (pilots_in (take k list)) k (drop at text) y rest f in
            let ends = end_trans rest (drop at text) text left (record { at = at; within = w.within; same = refl }) in
            record {
              within = omega arith;
              same = on ∙ rw (f, place, end_place rest text ends, add-one k, take_more list k x (omega arith), same);
            }
