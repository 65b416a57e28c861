-- What is decoded is what the bytes give, whole.
use mathlib.Core.Path.{◌≡◌, refl, ap}
use mathlib.Core.Bool.{Bool, true, false, cond, ◌&&◌, and-false}
use mathlib.Core.Logic.{⊎_elim}
use mathlib.Core.List.{List, [], ◌∷◌}
use Prim.Native.Nat.{ℕ, ◌+◌, ◌*◌, ◌%◌, ◌≤◌, ◌<◌}
use native.Mathlib.Omega.{arith}
use borrow.Author.Tests.{lt-ltb, le-ltb, ltb-true, leb-true, le-leb, lt-leb}
use lib.Dec.{leb}
use lib.ListN.{length, take, drop}
use lib.Seq.{sets, sets-eq, length-sets, take_at}
use Rattle.grid.proofs.Cases.{lt_or_le}
use Rattle.grid.proofs.EveryLaws.{both_hold}
use Rattle.groups.specs.Groups.{Number, bytes}
use Rattle.groups.proofs.GroupLaws.{read_last, read_more}
use Rattle.documents.specs.Walk.{Gives}
use Rattle.decoding.specs.Numbered.{numbered_after, numbers_after, decoded_as}
use Rattle.decoding.proofs.ByteLaws.{follows-last, last_byte, first_byte, numbered_rest, numbered_none, none_left}

-- A number of one byte, and of two.
one_read : (b : ℕ) (rest : List ℕ) → b < 128 → bytes (b ∷ rest) ≡ Number b rest
one_read b rest h = read_last 1 0 b rest h (omega arith)

two_read : (a b : ℕ) (rest : List ℕ) → 128 ≤ a → 0 < b → b < 128 → bytes (a ∷ b ∷ rest) ≡ Number (a % 128 + 128 * b) rest
two_read a b rest l p h = rw (read_more 1 0 a (b ∷ rest) l, read_last 0 1 b rest h p)

-- Bytes after one that ends a number.
numbers_given : (prior : ℕ) (s : List ℕ) → prior < 128 → numbered_after prior s ≡ true → Gives bytes s (numbers_after prior s) []
numbers_given prior [] p n = rw (none_left prior)
numbers_given prior (b ∷ []) p n =
    let l = ltb-true b 128 (numbered_none b (numbered_rest prior b [] n).1) in
    rw (last_byte prior b [] l, none_left b, lt-ltb prior 128 p) ([], one_read b [] l, refl)
numbers_given prior (b ∷ d ∷ s) p n =
    let m = (numbered_rest prior b (d ∷ s) n).1 in
    let r = numbered_rest b d s m in
    ⊎_elim (λ l. alone l (numbers_given b (d ∷ s) l m))
    (λ l. let f = follows-last b d l r.0 in pair l f.0 f.1 (numbers_given d s f.1 r.1))
    (lt_or_le b 128)
  where
    alone : b < 128 → Gives bytes (d ∷ s) (numbers_after b (d ∷ s)) [] → Gives bytes (b ∷ d ∷ s) (numbers_after prior (b ∷ d ∷ s)) []
    alone l more = rw (last_byte prior b (d ∷ s) l, lt-ltb prior 128 p) (d ∷ s, one_read b (d ∷ s) l, more)

    pair : 128 ≤ b → 0 < d → d < 128 → Gives bytes s (numbers_after d s) [] → Gives bytes (b ∷ d ∷ s) (numbers_after prior (b ∷ d ∷ s)) []
    pair l some last more =
        rw (first_byte prior b (d ∷ s) l, last_byte b d s last, le-ltb b 128 l) (s, two_read b d s l some last, more)

-- There are no more numbers than bytes.
numbers_few : (prior : ℕ) (s : List ℕ) → length (numbers_after prior s) ≤ length s
numbers_few prior [] = omega (arith, ap length (none_left prior))
numbers_few prior (b ∷ s) =
    ⊎_elim (λ l. omega (arith, ap length (last_byte prior b s l), numbers_few b s))
    (λ l. omega (arith, ap length (first_byte prior b s l), numbers_few b s))
    (lt_or_le b 128)

-- What is decoded where there is no room, where there is something else than numbers, and where there is neither.
pub decoded_short : (s : List ℕ) (room : ℕ) → room < length s → decoded_as s room ≡ []
decoded_short s room h = rw (lt-leb (length s) room h)

pub decoded_other : (s : List ℕ) (room : ℕ) → numbered_after 0 s ≡ false → decoded_as s room ≡ []
decoded_other s room h = rw (h, and-false (leb (length s) room))

pub decoded_whole : (s : List ℕ) (room : ℕ) → length s ≤ room → numbered_after 0 s ≡ true → decoded_as s room ≡ numbers_after 0 s
decoded_whole s room h n = rw (le-leb (length s) room h, n)

-- If anything is decoded, it stands at the front of the list, and is what the bytes give, whole.
pub decoded_given : (s lent list : List ℕ) (r : ℕ) → r ≡ length (decoded_as s (length lent)) →
    list ≡ sets lent 0 (decoded_as s (length lent)) → 0 < r → (r ≤ length list) × Gives bytes s (take r list) []
decoded_given s lent list r count same some = go (leb (length s) (length lent) && numbered_after 0 s) refl count same
  where
    go : (t : Bool) → (leb (length s) (length lent) && numbered_after 0 s) ≡ t → r ≡ length (cond t (numbers_after 0 s) []) →
        list ≡ sets lent 0 (cond t (numbers_after 0 s) []) → (r ≤ length list) × Gives bytes s (take r list) []
    go false e c l = absurd (omega arith)
    go true e c l =
        let t = both_hold (leb (length s) (length lent)) (numbered_after 0 s) e in
        let xs = numbers_after 0 s in
        let fits : 0 + length xs ≤ length lent = omega (arith, leb-true (length s) (length lent) t.0, numbers_few 0 s) in
        let front : take r list ≡ xs = rw (l, sets-eq xs lent 0 fits) (take_at xs (drop (0 + length xs) lent) r (omega arith)) in
        (omega (arith, ap length l, length-sets lent 0 xs), rw front (numbers_given 0 s (omega arith) t.1))
