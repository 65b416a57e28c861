-- The line of a byte of the squeezed text, counted byte by byte.
-- Assumes nothing.
use mathlib.Core.Path.{◌≡◌, refl, ◌∙◌}
use mathlib.Core.Bool.{true, false}
use mathlib.Core.List.{List, ◌∷◌}
use Prim.Native.Nat.{ℕ, suc, ◌+◌, ◌≤◌, ◌<◌}
use native.Mathlib.Numerals.{add-one}
use native.Mathlib.Omega.{arith}
use lib.ListN.{length, get_or, drop, drop_of_length-le}
use lib.Seq.{drop-cons}
use Rattle.layouts.specs.declared.squeezing.Mode.{Mode}
use Rattle.layouts.specs.declared.squeezing.Mode.TheVariants.{Gap}
use Rattle.std.specs.Prelude.{Option}
use Rattle.layouts.specs.Squeezed.{next_mode, given, is_here, fewer, line_end, line_from, line_at}

line_more : (mode : Mode) (line k b : ℕ) (rest : List ℕ) → is_here (given mode b) k ≡ false →
    line_from mode line k (b ∷ rest) ≡ line_from (next_mode mode b) (line + line_end b) (fewer (given mode b) k) rest
unfolding line_from
line_more mode line k b rest e = rw e

line_here : (mode : Mode) (line k b : ℕ) (rest : List ℕ) → is_here (given mode b) k ≡ true → line_from mode line k (b ∷ rest) ≡ line
unfolding line_from
line_here mode line k b rest e = rw e

-- After j bytes: the byte that is looked for has not been met.
pub record Counting (text : List ℕ) (k : ℕ) (mode : Mode) (line left j : ℕ) : Type 0 where
  pub same : line_at text k ≡ line_from mode line left (drop j text)
  pub few : line ≤ j + 1

pub counting_starts : (text : List ℕ) (k : ℕ) → Counting text k Gap 1 k 0
counting_starts text k = record { same = refl; few = omega arith }

module _ {text : List ℕ} {k : ℕ} {mode : Mode} {line left j : ℕ} (s : Counting text k mode line left j) where
  pub counting_turns : {g : Option ℕ} {after : Mode} {left₁ end : ℕ} (b : ℕ) → j < length text → b ≡ get_or text j 0 → g ≡ given mode b →
      is_here g left ≡ false → left₁ ≡ fewer g left → (end ≡ line_end b) × (end < 2) → after ≡ next_mode mode b →
      Counting text k after (line + end) left₁ (j + 1)
  counting_turns {g} {after} {left₁} {end} b h eb eg here el en ea = record {
    same = s.same ∙ rw (drop-cons text j 0 h, ← eb, line_more mode line left b (drop (suc j) text) (rw eg at here), add-one j, ea, el, en.0, eg);
    few = omega (arith, s.few, en.1);
  }

  pub counting_stops : {g : Option ℕ} (b : ℕ) → j < length text → b ≡ get_or text j 0 → g ≡ given mode b → is_here g left ≡ true → line ≡ line_at text k
  counting_stops {g} b h eb eg here =
      rw (s.same, drop-cons text j 0 h, ← eb, line_here mode line left b (drop (suc j) text) (rw eg at here))

  pub counting_ends : length text ≤ j → line ≡ line_at text k
  unfolding line_from
  counting_ends h = rw (s.same, drop_of_length-le text h)
