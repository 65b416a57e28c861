-- Writing a number at a place, a byte at each turn.
use mathlib.Core.Path.{◌≡◌, refl, ap, ◌∙◌}
use mathlib.Core.List.{List}
use Prim.Native.Nat.{ℕ, ◌+◌, ◌/◌, ◌%◌, ◌≤◌, ◌<◌}
use native.Mathlib.Numerals.{add-one}
use native.Mathlib.Omega.{arith}
use lib.ListN.{length, set, length-set}
use lib.Seq.{sets}
use Rattle.groups.specs.Groups.{encode}
use Rattle.groups.proofs.GroupLaws.{encode-last, encode_more, encode_some}

-- What is left, written here, makes what the whole number makes.
pub record Writing (out₀ out : List ℕ) (x at left here : ℕ) : Type 0 where
  pub long : length out ≡ length out₀
  pub ends : here + length (encode left) ≡ at + length (encode x)
  pub same : sets out here (encode left) ≡ sets out₀ at (encode x)

pub writing_starts : (out : List ℕ) (x at : ℕ) → Writing out out x at x at
writing_starts out x at = record { long = refl; ends = refl; same = refl }

module _ {out₀ out : List ℕ} {x at left here : ℕ} (r : Writing out₀ out x at left here) where
  pub writing_room : at + length (encode x) ≤ length out₀ → here < length out
  writing_room h = omega (arith, r.long, r.ends, encode_some left)

  pub writing_turns : 128 ≤ left → Writing out₀ (set out here (128 + left % 128)) x at (left / 128) (here + 1)
  writing_turns h = record {
    long = length-set out here (128 + left % 128) ∙ r.long;
    ends = omega (arith, r.ends, ap length (encode_more left h));
    same = rw (add-one here) (rw (encode_more left h) at r.same);
  }

  pub writing_ends : left < 128 → (set out here left ≡ sets out₀ at (encode x)) × (here + 1 ≡ at + length (encode x))
  writing_ends h = (rw (encode-last left h) at r.same, omega (arith, r.ends, ap length (encode-last left h)))
