-- Bytes that are numbers and nothing else, decoded a byte at each turn. A byte that another follows is written too, where the number that
-- it begins is written next.
use mathlib.Core.Path.{◌≡◌, refl, ap, ◌∙◌}
use mathlib.Core.Bool.{Bool, true, ◌&&◌, and_assoc}
use mathlib.Core.Logic.{⊎_elim}
use mathlib.Core.List.{List, [], ◌∷◌}
use Prim.Native.Nat.{ℕ, suc, ◌+◌, ◌≤◌, ◌<◌}
use native.Mathlib.Numerals.{add-one}
use native.Mathlib.Omega.{arith}
use borrow.Author.Tests.{lt-ltb, ltb-true}
use lib.Dec.{ltb}
use lib.ListN.{length, get_or, set, drop, length-set, drop_of_length-le}
use lib.Seq.{sets, set-set, drop-cons}
use Rattle.grid.proofs.Cases.{lt_or_le}
use Rattle.grid.proofs.EveryLaws.{both_hold}
use Rattle.decoding.specs.Numbered.{follows, ended, joined, numbered_after, numbers_after}
use Rattle.decoding.proofs.ByteLaws.{last_byte, first_byte, none_left, numbered_rest, follows-last}

-- A turn of the test, and its end.
pub numbered_turns : (s : List ℕ) (i prior b : ℕ) (well : Bool) → i < length s → b ≡ get_or s i 0 →
    (well && numbered_after prior (drop i s)) ≡ numbered_after 0 s →
    (well && follows prior b && numbered_after b (drop (i + 1) s)) ≡ numbered_after 0 s
unfolding numbered_after
numbered_turns s i prior b well h here e =
    rw (add-one i) (and_assoc well (follows prior b) (numbered_after b (drop (suc i) s)) ∙ (rw (drop-cons s i 0 h, ← here) at e))

pub numbered_ends : (s : List ℕ) (i prior : ℕ) (well : Bool) → length s ≤ i → (well && numbered_after prior (drop i s)) ≡ numbered_after 0 s →
    (well && ltb prior 128) ≡ numbered_after 0 s
unfolding numbered_after
numbered_ends s i prior well h e = rw (drop_of_length-le s h) at e

-- What was written where a number begins is written over.
written_over : (list rest : List ℕ) (count v b : ℕ) → 128 ≤ b → numbered_after b rest ≡ true →
    sets (set list count v) count (numbers_after b rest) ≡ sets list count (numbers_after b rest)
unfolding numbered_after numbers_after
written_over list [] count v b l e = absurd (omega (arith, ltb-true b 128 e))
written_over list (d ∷ rest) count v b l e =
    let t = follows-last b d l (both_hold (follows b d) (numbered_after d rest) e).0 in
    rw (lt-ltb d 128 t.1)
    (ap (λ (l : List ℕ). sets l (suc count) (numbers_after d rest)) (set-set list count v (joined b d)))

-- One byte: how many numbers are left, and what they leave of the list.
byte_count : (count prior b : ℕ) (rest : List ℕ) →
    count + ended b + length (numbers_after b rest) ≡ count + length (numbers_after prior (b ∷ rest))
byte_count count prior b rest =
    ⊎_elim (λ l. omega (arith, ap length (last_byte prior b rest l))) (λ l. omega (arith, ap length (first_byte prior b rest l)))
    (lt_or_le b 128)

byte_same : (list : List ℕ) (count prior b : ℕ) (rest : List ℕ) → numbered_after b rest ≡ true →
    sets (set list count (joined prior b)) (count + ended b) (numbers_after b rest) ≡ sets list count (numbers_after prior (b ∷ rest))
byte_same list count prior b rest e = ⊎_elim (λ l. ending l) (λ l. going l) (lt_or_le b 128)
  where
    ending : b < 128 →
        sets (set list count (joined prior b)) (count + ended b) (numbers_after b rest) ≡ sets list count (numbers_after prior (b ∷ rest))
    ending l = let d : count + ended b ≡ suc count = omega arith in rw (d, last_byte prior b rest l)

    going : 128 ≤ b →
        sets (set list count (joined prior b)) (count + ended b) (numbers_after b rest) ≡ sets list count (numbers_after prior (b ∷ rest))
    going l =
        let d : count + ended b ≡ count = omega arith in
        rw (d, first_byte prior b rest l) (written_over list rest count (joined prior b) b l e)

-- After i bytes, the last of them `prior`: the rest is numbers, which make the whole with those that were met.
pub record Decoding (s lent list : List ℕ) (i count prior : ℕ) : Type 0 where
  pub within : i ≤ length s
  pub few : count ≤ i
  pub byte : prior < 256
  pub long : length list ≡ length lent
  pub numbered : numbered_after prior (drop i s) ≡ true
  pub total : count + length (numbers_after prior (drop i s)) ≡ length (numbers_after 0 s)
  pub same : sets list count (numbers_after prior (drop i s)) ≡ sets lent 0 (numbers_after 0 s)

pub decoding_starts : (s lent : List ℕ) → numbered_after 0 s ≡ true → Decoding s lent lent 0 0 0
decoding_starts s lent n = record {
  within = omega arith;
  few = omega arith;
  byte = omega arith;
  long = refl;
  numbered = n;
  total = omega arith;
  same = refl;
}

module _ {s lent list : List ℕ} {i count prior : ℕ} (r : Decoding s lent list i count prior) where
  pub decoding_ends : length s ≤ i → (count ≡ length (numbers_after 0 s)) × (list ≡ sets lent 0 (numbers_after 0 s))
  decoding_ends h =
      let n = rw (drop_of_length-le s h, none_left prior) at r.total in
      (omega (arith, n), rw (drop_of_length-le s h, none_left prior) at r.same)

  pub decoding_turns : (b v : ℕ) → i < length s → b ≡ get_or s i 0 → b < 256 → v ≡ joined prior b →
      Decoding s lent (set list count v) (i + 1) (count + ended b) b
  decoding_turns b v h here byte join =
      let d : drop i s ≡ b ∷ drop (suc i) s = rw here (drop-cons s i 0 h) in
      let n = numbered_rest prior b (drop (suc i) s) (rw d at r.numbered) in
      record {
        within = omega arith;
        few = omega (arith, r.few);
        byte = byte;
        long = length-set list count v ∙ r.long;
        numbered = rw (add-one i) n.1;
        total = rw (add-one i) (byte_count count prior b (drop (suc i) s) ∙ (rw d at r.total));
        same = rw (add-one i, join) (byte_same list count prior b (drop (suc i) s) n.1 ∙ (rw d at r.same));
      }
