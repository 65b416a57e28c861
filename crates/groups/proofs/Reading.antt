-- Reading a number at a place of a slice, a byte at each turn.
use mathlib.Core.Path.{◌≡◌, refl, ap, ◌∙◌}
use mathlib.Core.List.{List, ◌∷◌}
use Prim.Native.Nat.{ℕ, suc, ◌+◌, ◌-◌, ◌*◌, ◌%◌, ◌^◌, ◌≤◌, ◌<◌}
use native.Mathlib.Nat.{pow-suc, pow-le-pow_right, mul_assoc, mul-add, add_assoc, add-zero, add-suc, mul-le-mul_left, le-pred_of_lt}
use native.Mathlib.Nat.{lt_of_lt_of_le}
use native.Mathlib.Numerals.{add-one}
use native.Mathlib.Omega.{arith}
use lib.ListN.{length, get_or, drop, length-drop, drop_of_length-le}
use lib.Seq.{drop-cons}
use Rattle.groups.specs.declared.Got.{Got}
use Rattle.groups.specs.Groups.{Read, Number, Ends, TooLong, Padded, raise, read_from, read_groups, groups, placed}
use Rattle.groups.proofs.GroupLaws.{read_none, read_end, read_padded, read_last, read_more}

raise-none : (r : Read) → r ≡ raise 0 1 r
raise-none (Number y rest) = ap (λ (x : ℕ). Number x rest) (omega arith)
raise-none Ends = refl
raise-none TooLong = refl
raise-none Padded = refl

raise-raise : (v w c : ℕ) (r : Read) → raise v w (raise c 128 r) ≡ raise (v + w * c) (w * 128) r
raise-raise v w c (Number y rest) =
    ap (λ (x : ℕ). Number x rest) (omega (arith, mul-add w c (128 * y), mul_assoc w 128 y, add_assoc v (w * c) (w * (128 * y))))
raise-raise v w c Ends = refl
raise-raise v w c TooLong = refl
raise-raise v w c Padded = refl

-- After k groups: what stands at `at` is what stands k bytes later, raised by the groups so far.
pub record Reading (s : List ℕ) (at k value weight least : ℕ) : Type 0 where
  pub turns : k ≤ groups
  pub within : at + k ≤ length s
  pub power : weight ≡ 128 ^ k
  pub small : value < 128 ^ k
  pub same : read_groups groups (drop at s) ≡ raise value weight (read_from (groups - k) least (drop (at + k) s))

-- Past the end there is no byte.
pub reading_past : (s : List ℕ) (at : ℕ) → length s ≤ at → Got.Ends ≡ placed (length s) (read_groups groups (drop at s))
reading_past s at h = rw (drop_of_length-le s h, read_end 1 0)

pub reading_starts : (s : List ℕ) (at : ℕ) → at ≤ length s → Reading s at 0 0 1 0
reading_starts s at h =
    record {
      turns = omega arith;
      within = omega arith;
      power = refl;
      small = omega arith;
      same = rw (add-zero at) (raise-none (read_groups groups (drop at s)));
    }

module _ {s : List ℕ} {at k v w l : ℕ} (r : Reading s at k v w l) where
  more_fits : (c : ℕ) → c < 128 → v + w * c < 128 ^ suc k
  more_fits c h = omega (arith, pow-suc 128 k, r.power, r.small, mul-le-mul_left w (le-pred_of_lt h))

  -- one more group fits
  pub reading_fits : (c : ℕ) → k < groups → c < 128 → v + w * c < 128 ^ groups
  reading_fits c t h = lt_of_lt_of_le (more_fits c h) (pow-le-pow_right (omega arith) t)

  -- the ways out before a byte is read
  pub reading_ends : k < groups → length s ≤ at + k → Got.Ends ≡ placed (length s) (read_groups groups (drop at s))
  reading_ends t h =
      let e : groups - k ≡ suc (groups - suc k) = omega arith in
      rw (r.same, e, drop_of_length-le s h, read_end (groups - suc k) l)

  pub reading_long : groups ≤ k → Got.TooLong ≡ placed (length s) (read_groups groups (drop at s))
  reading_long t = let e : groups - k ≡ 0 = omega arith in rw (r.same, e, read_none l (drop (at + k) s))

  -- the byte b: two ways out, and the next turn
  module _ (b : ℕ) (here : b ≡ get_or s (at + k) 0) (t : k < groups) (h : at + k < length s) where
    at_byte : read_groups groups (drop at s) ≡ raise v w (read_from (suc (groups - suc k)) l (b ∷ drop (suc (at + k)) s))
    at_byte = let e : groups - k ≡ suc (groups - suc k) = omega arith in r.same ∙ rw (e, drop-cons s (at + k) 0 h, ← here)

    pub reading_padded : b < 128 → b < l → Got.Padded ≡ placed (length s) (read_groups groups (drop at s))
    reading_padded d p = rw (at_byte, read_padded (groups - suc k) l b (drop (suc (at + k)) s) d p)

    pub reading_number : b < 128 → l ≤ b → Got.Number (v + w * b) (at + k + 1) ≡ placed (length s) (read_groups groups (drop at s))
    reading_number d p =
        rw (at_byte, read_last (groups - suc k) l b (drop (suc (at + k)) s) d p, length-drop (suc (at + k)) s)
        (ap (Got.Number (v + w * b)) (omega arith))

    pub reading_turns : 128 ≤ b → Reading s at (k + 1) (v + w * (b % 128)) (w * 128) 1
    reading_turns d = record {
      turns = omega arith;
      within = omega arith;
      power = rw (add-one k, pow-suc 128 k) (ap (λ (x : ℕ). x * 128) r.power);
      small = rw (add-one k) (more_fits (b % 128) (omega arith));
      same =
          rw (add-one k, add-suc at k)
          (at_byte
          ∙ ap (raise v w) (read_more (groups - suc k) l b (drop (suc (at + k)) s) d)
          ∙ raise-raise v w (b % 128) (read_from (groups - suc k) 1 (drop (suc (at + k)) s)));
    }
