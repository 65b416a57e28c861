-- The numbers that bytes begin with, written into a list one at each turn; and the bytes that numbers take, summed.
-- Assumes nothing.
use mathlib.Core.Path.{◌≡◌, refl, sym, ap, ◌∙◌}
use mathlib.Core.List.{List, [], ◌∷◌, ◌++◌, append-nil, append_assoc}
use Prim.Native.Nat.{ℕ, zero, suc, ◌+◌, ◌-◌, ◌*◌, ◌≤◌, ◌<◌}
use native.Mathlib.Numerals.{add-one}
use native.Mathlib.Omega.{arith}
use lib.ListN.{length, get_or, set, take, drop, length-set, length-append, length-take, drop_of_length-le}
use lib.Seq.{drop-cons, get_or-drop, take-suc-set}
use Rattle.grid.proofs.Cases.{never}
use Rattle.groups.specs.declared.Got.{Got}
use Rattle.groups.specs.Groups.{Read, Number, Ends, TooLong, Padded, Bytes, groups, encode, pack, bytes, placed}
use Rattle.groups.proofs.Ends.{EndOf, end_trans, end_place}
use Rattle.groups.proofs.GroupLaws.{read_encodes, three_groups_short}
use Rattle.scanning.specs.Sources.{bytes-ending}
use Rattle.checks.specs.declared.refusals.Document.{Document}
use Rattle.places.specs.Places.{place_in, number_then, numbers_in, most_numbers, numbers_at_front, number_of, beginning_of}

-- After k numbers: those that are left are read from here on.
pub record Reading (s lent list : List ℕ) (here k : ℕ) : Type 0 where
  pub turns : k ≤ length lent
  pub long : length list ≡ length lent
  pub within : here ≤ length s
  pub same : take k list ++ numbers_in (length lent - k) (drop here s) ≡ numbers_in (length lent) s

pub reading_starts : (s lent : List ℕ) → Reading s lent lent 0 0
reading_starts s lent =
    let z : length lent - 0 ≡ length lent = omega arith in
    record { turns = omega arith; long = refl; within = omega arith; same = rw z }

numbers_none : (s : List ℕ) → numbers_in 0 s ≡ []
unfolding numbers_in
numbers_none s = refl

pub numbers_more : (k : ℕ) (s : List ℕ) → numbers_in (suc k) s ≡ number_then (bytes s) (λ rest. numbers_in k rest)
unfolding numbers_in
numbers_more k s = refl

-- What was answered at a place says what is read there.
unread : (n : ℕ) (r : Read) (got : Got) (go : List ℕ → List ℕ) → got ≡ placed n r → ((x p : ℕ) → got ≡ Got.Number x p → ⊥) →
    number_then r go ≡ []
unread n (Number x rest) got go e h = absurd (h x (n - length rest) e)
unread n Ends got go e h = refl
unread n TooLong got go e h = refl
unread n Padded got go e h = refl

placed_number : (n : ℕ) (r : Read) (x p : ℕ) → Got.Number x p ≡ placed n r → (rest : List ℕ) × (r ≡ Number x rest) × (p ≡ n - length rest)
placed_number n (Number y rest) x p e = (rest, cc, cc)
placed_number n Ends x p e = never cc
placed_number n TooLong x p e = never cc
placed_number n Padded x p e = never cc

at_number : (s : List ℕ) (at x p : ℕ) → at ≤ length s → Got.Number x p ≡ placed (length s) (bytes (drop at s)) →
    (bytes (drop at s) ≡ Number x (drop p s)) × (p ≤ length s)
at_number s at x p h e =
    let t = placed_number (length s) (bytes (drop at s)) x p e in
    let a : EndOf (drop at s) s = record { at = at; within = h; same = refl } in
    let d = end_place t.0 s (end_trans t.0 (drop at s) s (bytes-ending (drop at s) x t.0 t.1) a) in
    (t.1 ∙ ap (Number x) (sym d ∙ ap (λ (k : ℕ). drop k s) (sym t.2)), omega (arith, t.2))

module _ {s lent list : List ℕ} {here k : ℕ} (r : Reading s lent list here k) where
  pub reading_ends : length lent ≤ k → take k list ≡ numbers_in (length lent) s
  reading_ends h =
      let z : length lent - k ≡ 0 = omega arith in
      sym (append-nil (take k list)) ∙ (rw (z, numbers_none (drop here s)) at r.same)

  pub reading_stops : (got : Got) → k < length lent → got ≡ placed (length s) (bytes (drop here s)) →
      ((x p : ℕ) → got ≡ Got.Number x p → ⊥) → take k list ≡ numbers_in (length lent) s
  reading_stops got h e none =
      let z : length lent - k ≡ suc (length lent - suc k) = omega arith in
      let u = unread (length s) (bytes (drop here s)) got (λ rest. numbers_in (length lent - suc k) rest) e none in
      sym (append-nil (take k list)) ∙ (rw (z, numbers_more (length lent - suc k) (drop here s), u) at r.same)

  module _ (v p : ℕ) (h : k < length lent) (e : Got.Number v p ≡ placed (length s) (bytes (drop here s))) where
    -- it fits 16 bits
    pub reading_word : Bytes s → v < 65536
    reading_word b =
        let a = (at_number s here v p r.within e).0 in
        let w : Bytes (drop here s) = λ i. rw (get_or-drop here s i 0) (b (here + i)) in
        omega (arith, (read_encodes groups (drop here s) v (drop p s) w a).1)

    pub reading_turns : Reading s lent (set list k v) p (k + 1)
    reading_turns =
        let a = at_number s here v p r.within e in
        let z : length lent - k ≡ suc (length lent - suc k) = omega arith in
        let f = rw (z, numbers_more (length lent - suc k) (drop here s), a.0) at r.same in
        record {
          turns = omega arith;
          long = length-set list k v ∙ r.long;
          within = a.1;
          same = rw (
            add-one k,
            take-suc-set list k v (omega (arith, r.long)),
            append_assoc (take k list) (v ∷ []) (numbers_in (length lent - suc k) (drop p s)),
          ) f;
        }

-- After k numbers: the bytes so far and those that are left.
pub record Summing (list : List ℕ) (k total : ℕ) : Type 0 where
  pub turns : k ≤ length list
  pub ends : total + length (pack (drop k list)) ≡ length (pack list)
  pub few : total ≤ 3 * k

pub summing_starts : (list : List ℕ) → Summing list 0 0
summing_starts list = record { turns = omega arith; ends = omega arith; few = omega arith }

pub summing_turns : (list : List ℕ) (k total n : ℕ) → Summing list k total → k < length list → get_or list k 0 < 65536 →
    n ≡ length (encode (get_or list k 0)) → Summing list (k + 1) (total + n)
summing_turns list k total n r h small f =
    let left : pack (drop k list) ≡ encode (get_or list k 0) ++ pack (drop (suc k) list) = ap pack (drop-cons list k 0 h) in
    rw (add-one k)
    (record {
      turns = omega arith;
      ends = omega (arith, r.ends, ap length left, length-append (encode (get_or list k 0)) (pack (drop (suc k) list)), f);
      few = omega (arith, r.few, f, three_groups_short (get_or list k 0) (omega arith));
    })

pub summing_ends : (list : List ℕ) (k total : ℕ) → Summing list k total → length list ≤ k → total ≡ length (pack list)
summing_ends list k total r h = omega (arith, rw (drop_of_length-le list h) at r.ends)

numbers_few : (k : ℕ) (s : List ℕ) → length (numbers_in k s) ≤ k
unfolding numbers_in
numbers_few zero s = omega arith
numbers_few (suc k) s = go (bytes s) (λ rest. numbers_few k rest)
  where
    go : (r : Read) → ((rest : List ℕ) → length (numbers_in k rest) ≤ k) → length (number_then r (λ rest. numbers_in k rest)) ≤ suc k
    go (Number x rest) h = omega (arith, h rest)
    go Ends h = omega arith
    go TooLong h = omega arith
    go Padded h = omega arith

-- The answer put together: the numbers of the bytes, the place among them, and those before it.
module _ (p : Document) (s list front : List ℕ) (number : ℕ) (e : list ≡ numbers_at_front s) (f : front ≡ take number list) where
  pub front_few : length front ≤ most_numbers
  front_few = omega (arith, ap length f, length-take number list, ap length e, numbers_few most_numbers s)

  pub place_of-bytes : (byte : ℕ) → number ≡ place_in p list → byte ≡ length (pack front) →
      (number ≡ number_of p s) × (byte ≡ beginning_of s (number_of p s))
  place_of-bytes byte g h =
      let n : number ≡ number_of p s = g ∙ ap (place_in p) e in
      let before : front ≡ take (number_of p s) (numbers_at_front s) = f ∙ ap (λ (k : ℕ). take k list) n ∙ ap (take (number_of p s)) e in
      (n, h ∙ ap (λ (l : List ℕ). length (pack l)) before)

-- The bytes before a number that was read are those of the numbers before it.
pub before_number : (k : ℕ) (s : List ℕ) (j : ℕ) → Bytes s → (rest : List ℕ) × (s ≡ pack (take j (numbers_in k s)) ++ rest)
unfolding numbers_in
before_number zero s zero b = (s, refl)
before_number zero s (suc j) b = (s, refl)
before_number (suc k) s zero b = (s, refl)
before_number (suc k) s (suc j) b = go (bytes s) refl (λ more w. before_number k more j w)
  where
    go : (r : Read) → bytes s ≡ r →
        ((more : List ℕ) → Bytes more → (rest : List ℕ) × (more ≡ pack (take j (numbers_in k more)) ++ rest)) →
        (rest : List ℕ) × (s ≡ pack (take (suc j) (number_then r (λ more. numbers_in k more))) ++ rest)
    go (Number x more) e later =
        let end = bytes-ending s x more e in
        let w : Bytes more = rw end.same (λ i. rw (get_or-drop end.at s i 0) (b (end.at + i))) in
        let t = later more w in (
          t.0,
          (read_encodes groups s x more b e).0 ∙ ap (λ (l : List ℕ). encode x ++ l) t.1
              ∙ sym (append_assoc (encode x) (pack (take j (numbers_in k more))) t.0),
        )
    go Ends e later = (s, refl)
    go TooLong e later = (s, refl)
    go Padded e later = (s, refl)
