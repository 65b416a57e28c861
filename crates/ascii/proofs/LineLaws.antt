-- A line of numbers, written number by number, and how long it is.
-- Assumes nothing.
use mathlib.Core.Path.{◌≡◌, refl, sym, ap, ◌∙◌}
use mathlib.Core.List.{List, [], ◌∷◌, ◌++◌, append_assoc}
use Prim.Native.Nat.{ℕ, ◌+◌, ◌*◌, ◌≤◌, ◌<◌}
use native.Mathlib.Numerals.{add-one}
use native.Mathlib.Omega.{arith}
use lib.ListN.{length, get_or, drop, length-append, drop_of_length-le}
use lib.Seq.{sets, drop-cons}
use Rattle.ascii.specs.Decimal.{decimal}
use Rattle.ascii.specs.Writing.{Wrote}
use Rattle.ascii.specs.Lines.{separator, line}
use Rattle.ascii.proofs.PageWriting.{sets_append}
use Rattle.ascii.proofs.Spelling.{decimal_short}

pub separator_inside : (numbers : List ℕ) (k : ℕ) → k + 1 < length numbers → 32 ≡ separator (drop (k + 1) numbers)
separator_inside numbers k h = rw (drop-cons numbers (k + 1) 0 h)

pub separator-last : (numbers : List ℕ) (k : ℕ) → length numbers ≤ k + 1 → 10 ≡ separator (drop (k + 1) numbers)
separator-last numbers k h = rw (drop_of_length-le numbers h)

-- at most three digits and a separator for each number
pub line_short : (numbers : List ℕ) → length (line numbers) ≤ 4 * length numbers
line_short [] = omega arith
line_short (x ∷ xs) = omega (arith, length-append (decimal x) (separator xs ∷ line xs), decimal_short x, line_short xs)

-- After k numbers: those that are left, written here, make the whole line.
pub record Lining (page₀ page : List ℕ) (from here : ℕ) (numbers : List ℕ) (k : ℕ) : Type 0 where
  pub same : sets page here (line (drop k numbers)) ≡ sets page₀ from (line numbers)
  pub ends : here + length (line (drop k numbers)) ≡ from + length (line numbers)
  pub near : here ≤ from + 4 * k

pub lining_starts : (page : List ℕ) (at : ℕ) (numbers : List ℕ) → Lining page page at at numbers 0
lining_starts page at numbers = record { same = refl; ends = refl; near = omega arith }

apart : (numbers : List ℕ) (k x s : ℕ) → k < length numbers → x ≡ get_or numbers k 0 → s ≡ separator (drop (k + 1) numbers) →
    line (drop k numbers) ≡ (decimal x ++ (s ∷ [])) ++ line (drop (k + 1) numbers)
apart numbers k x s h ex es = rw (ex, es, add-one k, drop-cons numbers k 0 h) (sym (append_assoc (decimal (get_or numbers k 0)) _ _))

module _ {page₀ page : List ℕ} {from here : ℕ} {numbers : List ℕ} {k : ℕ} (w : Lining page₀ page from here numbers k) where
  pub lining_turns : (page₁ : List ℕ) (here₁ x s : ℕ) → k < length numbers → x ≡ get_or numbers k 0 →
      s ≡ separator (drop (k + 1) numbers) → Wrote page page₁ here here₁ (decimal x ++ (s ∷ [])) → Lining page₀ page₁ from here₁ numbers
      (k + 1)
  lining_turns page₁ here₁ x s h ex es v =
      let piece = decimal x ++ (s ∷ []) in
      let rest = line (drop (k + 1) numbers) in
      let a = apart numbers k x s h ex es in
      record {
        same = rw (v.stored, v.ends) (sets_append page here piece rest ∙ ap (sets page here) (sym a) ∙ w.same);
        ends = omega (arith, v.ends, w.ends, ap length a, length-append piece rest);
        near = omega (arith, w.near, v.ends, length-append (decimal x) (s ∷ []), decimal_short x);
      }

  pub lining_ends : length numbers ≤ k → Wrote page₀ page from here (line numbers)
  lining_ends h =
      let e = drop_of_length-le numbers h in
      record { stored = rw e at w.same; ends = omega (arith, w.ends, ap (λ (l : List ℕ). length (line l)) e) }
