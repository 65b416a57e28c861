-- Drawn numbers stored one after another: what is left to store at each turn of the loops, and the whole ticket.
-- Assumes nothing.
use mathlib.Core.Path.{◌≡◌, refl, ◌∙◌}
use mathlib.Core.Bool.{Bool}
use mathlib.Core.List.{List, [], ◌∷◌, ◌++◌}
use Prim.Native.Nat.{ℕ, zero, suc, ◌+◌, ◌*◌, ◌-◌, ◌≤◌, ◌<◌}
use native.Mathlib.Omega.{arith}
use lib.ListN.{length, set, length-set, length-append}
use lib.Seq.{sets, length-sets}
use Rattle.checks.specs.Hours.{noted, noted_all, none_of, none_in}
use Rattle.checks.proofs.HourLaws.{none-noted}
use Rattle.draws.specs.Generator.{next, after}
use Rattle.draws.specs.Drawn.{hours_from, cap_from, tariff_amount, joint_amount, drawn_hours, drawn_pair, drawn_pairs, ticket_from}

-- What is stored in two goes is stored in one.
sets_append : (l : List ℕ) (i : ℕ) (x y : List ℕ) → sets (sets l i x) (i + length x) y ≡ sets l i (x ++ y)
sets_append l i [] y = let e : i + 0 ≡ i = omega arith in rw e
sets_append l i (a ∷ x) y =
    let e : i + suc (length x) ≡ suc i + length x = omega arith in rw e (sets_append (set l i a) (suc i) x y)

-- The hours of `count` parties are stored from a place on: after k of them, storing what is left makes the whole.
pub record HoursLeft (list₀ : List ℕ) (from count x : ℕ) (list : List ℕ) (here without k : ℕ) : Type 0 where
  pub among : k ≤ count
  pub long : length list ≡ length list₀
  pub number : after (count - k) here ≡ after count x
  pub noted : noted_all without (drawn_hours (count - k) here) ≡ noted_all 0 (drawn_hours count x)
  pub stored : sets list (from + k) (drawn_hours (count - k) here) ≡ sets list₀ from (drawn_hours count x)

pub hours-start : (list : List ℕ) (from count x : ℕ) → HoursLeft list from count x list x 0 0
hours-start list from count x =
    let e : count - 0 ≡ count = omega arith in
    let f : from + 0 ≡ from = omega arith in
    record { among = omega arith; long = refl; number = rw e; noted = rw e; stored = rw (e, f) }

module _ {list₀ : List ℕ} {from count x : ℕ} {list : List ℕ} {here without k : ℕ}
    (left : HoursLeft list₀ from count x list here without k) where
  pub hours_turn : (v i w then : ℕ) → k < count → v ≡ hours_from here → i ≡ v → w ≡ noted without i → then ≡ next here →
      HoursLeft list₀ from count x (set list (from + k) v) then w (k + 1)
  hours_turn v i w then h ev ei ew et =
      let e : count - k ≡ suc (count - (k + 1)) = omega arith in
      let f : from + (k + 1) ≡ suc (from + k) = omega arith in
      record {
        among = omega arith;
        long = length-set list (from + k) v ∙ left.long;
        number = rw et (rw e at left.number);
        noted = rw (ew, ei, ev, et) (rw e at left.noted);
        stored = rw (ev, et, f) (rw e at left.stored);
      }

  pub hours_end : count ≤ k → ((here ≡ after count x) × (without ≡ noted_all 0 (drawn_hours count x)))
      × (list ≡ sets list₀ from (drawn_hours count x))
  hours_end h = let e : count - k ≡ 0 = omega arith in ((rw e at left.number, rw e at left.noted), rw e at left.stored)

-- The same for pairs, of five numbers each.
pub record PairsLeft (none : ℕ → Bool) (list₀ : List ℕ) (from count x : ℕ) (list : List ℕ) (here k : ℕ) : Type 0 where
  pub among : k ≤ count
  pub long : length list ≡ length list₀
  pub stored : sets list (from + 5 * k) (drawn_pairs none k (count - k) here) ≡ sets list₀ from (drawn_pairs none 0 count x)

pub pairs_start : (none : ℕ → Bool) (list : List ℕ) (from count x : ℕ) → PairsLeft none list from count x list x 0
pairs_start none list from count x =
    let e : count - 0 ≡ count = omega arith in
    let f : from + 5 * 0 ≡ from = omega arith in
    record { among = omega arith; long = refl; stored = rw (e, f) }

module _ {none : ℕ → Bool} {list₀ : List ℕ} {from count x : ℕ} {list : List ℕ} {here k : ℕ}
    (left : PairsLeft none list₀ from count x list here k) where
  pub pairs_turn : (b : Bool) (list₁ : List ℕ) (then : ℕ) → k < count → b ≡ none k → list₁ ≡ sets list (from + 5 * k) (drawn_pair b here) →
      then ≡ after 5 here → PairsLeft none list₀ from count x list₁ then (k + 1)
  pairs_turn b list₁ then h eb el et =
      let e : count - k ≡ suc (count - (k + 1)) = omega arith in
      let f : from + 5 * (k + 1) ≡ from + 5 * k + 5 = omega arith in
      record {
        among = omega arith;
        long = rw el (length-sets list (from + 5 * k) (drawn_pair b here) ∙ left.long);
        stored =
            rw (el, eb, et, f)
            (sets_append list (from + 5 * k) (drawn_pair (none k) here) (drawn_pairs none (k + 1) (count - (k + 1)) (after 5 here))
            ∙ rw e at left.stored);
      }

  pub pairs_end : count ≤ k → list ≡ sets list₀ from (drawn_pairs none 0 count x)
  pairs_end h = let e : count - k ≡ 0 = omega arith in rw e at left.stored

-- Five stores are a pair, and they take five numbers of the generator.
five_stored : (l : List ℕ) (i a b c d e : ℕ) →
    set (set (set (set (set l i a) (i + 1) b) (i + 2) c) (i + 3) d) (i + 4) e ≡ sets l i (a ∷ b ∷ c ∷ d ∷ e ∷ [])
five_stored l i a b c d e =
    let f₁ : i + 1 ≡ suc i = omega arith in
    let f₂ : i + 2 ≡ suc (suc i) = omega arith in
    let f₃ : i + 3 ≡ suc (suc (suc i)) = omega arith in
    let f₄ : i + 4 ≡ suc (suc (suc (suc i))) = omega arith in
    rw (f₁, f₂, f₃, f₄)

pub pair_stored : (none : Bool) (l : List ℕ) (i x₀ x₁ x₂ x₃ x₄ x₅ tariff_cap gain pay free_cap joint_gain : ℕ) →
    x₁ ≡ next x₀ → x₂ ≡ next x₁ → x₃ ≡ next x₂ → x₄ ≡ next x₃ → x₅ ≡ next x₄ →
    tariff_cap ≡ cap_from none x₀ → gain ≡ tariff_amount tariff_cap x₁ → pay ≡ tariff_amount tariff_cap x₂ → free_cap ≡ cap_from none x₃ →
    joint_gain ≡ joint_amount free_cap x₄ →
    (x₅ ≡ after 5 x₀)
    × (set (set (set (set (set l i tariff_cap) (i + 1) gain) (i + 2) pay) (i + 3) free_cap) (i + 4) joint_gain ≡ sets l i (drawn_pair none x₀))
pair_stored none l i x₀ x₁ x₂ x₃ x₄ x₅ tariff_cap gain pay free_cap joint_gain e₁ e₂ e₃ e₄ e₅ et eg ep ef ej =
    rw (ej, ef, ep, eg, et, e₅, e₄, e₃, e₂, e₁) (refl, five_stored l i _ _ _ _ _)

-- How many numbers there are.
pub hours-length : (k x : ℕ) → length (drawn_hours k x) ≡ k
hours-length zero x = refl
hours-length (suc k) x = omega (arith, hours-length k (next x))

pub pairs-length : (none : ℕ → Bool) (q k x : ℕ) → length (drawn_pairs none q k x) ≡ 5 * k
pairs-length none q zero x = refl
pairs-length none q (suc k) x = omega (arith, pairs-length none (q + 1) k (after 5 x))

pub ticket-length : (n m x : ℕ) → length (ticket_from n m x) ≡ 3 + n + m + 5 * (n * m)
ticket-length n m x =
    omega (
      arith,
      length-append (drawn_hours (n + m) x) (drawn_pairs (none_in (drawn_hours (n + m) x) n m) 0 (n * m) (after (n + m) x)),
      hours-length (n + m) x,
      pairs-length (none_in (drawn_hours (n + m) x) n m) 0 (n * m) (after (n + m) x),
    )

-- A list keeps its length.
pub stored_long : (l l₁ : List ℕ) (i : ℕ) (xs : List ℕ) → l₁ ≡ sets l i xs → length l₁ ≡ length l
stored_long l l₁ i xs e = rw e (length-sets l i xs)

pub hours_long : (l l₁ : List ℕ) (n m : ℕ) (xs : List ℕ) → l₁ ≡ sets (set (set (set l 0 1) 1 n) 2 m) 3 xs → length l₁ ≡ length l
hours_long l l₁ n m xs e = stored_long l l₁ 0 (1 ∷ n ∷ m ∷ xs) e

-- Pairs are drawn alike, where the same ones have somebody without hours.
pairs-same : (none none' : ℕ → Bool) (k q x : ℕ) → ((p : ℕ) → p < q + k → none p ≡ none' p) →
    drawn_pairs none q k x ≡ drawn_pairs none' q k x
pairs-same none none' zero q x same = refl
pairs-same none none' (suc k) q x same =
    rw (same q (omega arith), pairs-same none none' k (q + 1) (after 5 x) (λ p h. same p (omega arith)))

-- The head, the hours and the pairs are the ticket.
pub ticket_stored : (l l₁ l₂ : List ℕ) (n m pairs x here without : ℕ) → n + m ≤ 32 → pairs ≡ n * m → here ≡ after (n + m) x →
    without ≡ noted_all 0 (drawn_hours (n + m) x) → l₁ ≡ sets (set (set (set l 0 1) 1 n) 2 m) 3 (drawn_hours (n + m) x) →
    l₂ ≡ sets l₁ (3 + (n + m)) (drawn_pairs (none_of without n m) 0 pairs here) → l₂ ≡ sets l 0 (ticket_from n m x)
ticket_stored l l₁ l₂ n m pairs x here without few ep eh ew e₁ e₂ =
    let hours = drawn_hours (n + m) x in
    let same = pairs-same (none_of (noted_all 0 hours) n m) (none_in hours n m) (n * m) 0 (after (n + m) x)
    (λ p h. none-noted hours n m p (hours-length (n + m) x) few (omega arith)) in
    e₂ ∙ rw (e₁, ep, eh, ew, same)
    (rw (hours-length (n + m) x) at
    (sets_append (set (set (set l 0 1) 1 n) 2 m) 3 hours (drawn_pairs (none_in hours n m) 0 (n * m) (after (n + m) x))))
