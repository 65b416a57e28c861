-- The digits of a number: before the last stand those of its tenth. Below 1000 they are its three digits without leading zeros.
-- And what is known while they are written, the last first.
-- Assumes nothing.
use mathlib.Core.Path.{◌≡◌, refl, sym, ap, ◌∙◌}
use mathlib.Core.Logic.{⊎_elim}
use mathlib.Core.List.{List, [], ◌∷◌, ◌++◌, append-nil, append_assoc}
use Prim.Native.Nat.{ℕ, zero, suc, ◌+◌, ◌-◌, ◌/◌, ◌%◌, ◌^◌, ◌<◌, ◌≤◌}
use native.Mathlib.Nat.{eq-zero-or-pos, pow-suc}
use native.Mathlib.Numerals.{add-one}
use native.Mathlib.Omega.{arith}
use borrow.Author.Tests.{lt-ltb, le-ltb}
use lib.ListN.{length, set, take, drop}
use Rattle.ascii.specs.Decimal.{digit, decimal}
use Rattle.ascii.specs.Numeral.{numeral_in, numeral, numeral_bytes}
use Rattle.ascii.specs.Writing.{Wrote}
use Rattle.ascii.proofs.PageWriting.{wrote_nothing, wrote_part, wrote_before, wrote_same}
use Rattle.ascii.proofs.Spelling.{units_alone, tens_first, hundreds_first, decimal_is}

-- room for more digits makes no difference
same-numeral : (j k n : ℕ) → n ≤ j → n ≤ k → numeral_in j n ≡ numeral_in k n
unfolding numeral_in
same-numeral zero zero n hj hk = refl
same-numeral zero (suc k) n hj hk = rw (lt-ltb n 10 (omega arith))
same-numeral (suc j) zero n hj hk = rw (lt-ltb n 10 (omega arith))
same-numeral (suc j) (suc k) n hj hk = rw (same-numeral j k (n / 10) (omega arith) (omega arith))

pub one-digit : (n : ℕ) → n < 10 → numeral n ≡ digit n ∷ []
unfolding numeral_in
one-digit zero h = refl
one-digit (suc n) h = rw (lt-ltb (suc n) 10 h)

pub more_digits : (n : ℕ) → 10 ≤ n → numeral n ≡ numeral (n / 10) ++ (digit (n % 10) ∷ [])
unfolding numeral_in
more_digits zero h = absurd (omega arith)
more_digits (suc n) h = rw (le-ltb (suc n) 10 h, same-numeral n (suc n / 10) (suc n / 10) (omega arith) (omega arith))

module _ (n : ℕ) (below : n < 1000) where
  one : n / 10 ≡ 0 → numeral n ≡ decimal n
  one e =
      one-digit n (omega arith)
      ∙ units_alone (n / 100) (n / 10 % 10) (n % 10) _ (omega arith) (omega arith) (omega arith)
      ∙ decimal_is n

  two : 0 < n / 10 → n / 100 ≡ 0 → numeral n ≡ decimal n
  two p e =
      more_digits n (omega arith)
      ∙ ap (λ (l : List ℕ). l ++ (digit (n % 10) ∷ [])) (one-digit (n / 10) (omega arith))
      ∙ tens_first (n / 100) (n / 10 % 10) (n % 10) _ _ e (λ z. omega arith) (omega arith) refl
      ∙ decimal_is n

  three : 0 < n / 100 → numeral n ≡ decimal n
  three p =
      more_digits n (omega arith)
      ∙ ap (λ (l : List ℕ). l ++ (digit (n % 10) ∷ []))
      (more_digits (n / 10) (omega arith) ∙ ap (λ (l : List ℕ). l ++ (digit (n / 10 % 10) ∷ [])) (one-digit (n / 10 / 10) (omega arith)))
      ∙ hundreds_first (n / 100) (n / 10 % 10) (n % 10) _ _ _ (λ z. omega arith) (omega arith) refl refl
      ∙ decimal_is n

  pub numeral-decimal : numeral n ≡ decimal n
  numeral-decimal = ⊎_elim one (λ p. ⊎_elim (two p) three (eq-zero-or-pos (n / 100))) (eq-zero-or-pos (n / 10))

-- where it was written, it can be read again
pub decimal-part : {text text' : List ℕ} {first : ℕ} (n : ℕ) → n < 1000 → numeral_bytes ≤ length text →
    Wrote text text' first numeral_bytes (numeral n) → take (numeral_bytes - first) (drop first text') ≡ decimal n
decimal-part n below long w = wrote_part w long ∙ numeral-decimal n below

-- Some last digits of n are written, after the place `next`; those of `rest` stand before them.
pub record Numbering (text text' : List ℕ) (n next rest : ℕ) : Type 0 where
  pub done : List ℕ
  pub wrote : Wrote text text' (next + 1) numeral_bytes done
  pub whole : numeral rest ++ done ≡ numeral n
  pub fits : rest < 10 ^ (next + 1)

pub numbering_starts : (text : List ℕ) (n : ℕ) → n < 10 ^ 20 → Numbering text text n 19 n
numbering_starts text n h = record { done = []; wrote = wrote_nothing text 20; whole = append-nil (numeral n); fits = h }

-- there is a place for one digit more
pub place_left : (next rest : ℕ) → rest < 10 ^ (next + 1) → 10 ≤ rest → 0 < next
place_left zero rest h l = absurd (omega arith)
place_left (suc next) rest h l = omega arith

module _ {text text' : List ℕ} {n next rest : ℕ} (w : Numbering text text' n next rest) (b : ℕ) (e : b ≡ digit (rest % 10)) where
  pub numbering_turns : 10 ≤ rest → Numbering text (set text' next b) n (next - 1) (rest / 10)
  numbering_turns l =
      let place : next - 1 + 1 ≡ next = omega (arith, place_left next rest w.fits l) in
      let digits : numeral (rest / 10) ++ (b ∷ []) ≡ numeral rest = rw e (sym (more_digits rest l)) in
      record {
        done = b ∷ w.done;
        wrote = rw place (wrote_before w.wrote b);
        whole =
            sym (append_assoc (numeral (rest / 10)) (b ∷ []) w.done)
            ∙ ap (λ (ds : List ℕ). ds ++ w.done) digits
            ∙ w.whole;
        fits = let below : rest < 10 ^ suc next = rw (add-one next) at w.fits in rw place (omega (arith, pow-suc 10 next));
      }

  pub numbering_ends : rest < 10 → Wrote text (set text' next b) next numeral_bytes (numeral n)
  numbering_ends h =
      let last : digit rest ≡ b = omega arith in
      wrote_same _
      (ap (λ (d : ℕ). d ∷ w.done) (sym last) ∙ ap (λ (ds : List ℕ). ds ++ w.done) (sym (one-digit rest h)) ∙ w.whole)
      (wrote_before w.wrote b)
