-- The texts of refusals and verdicts are short, and a number that has none is told so.
-- Assumes nothing.
use mathlib.Core.Path.{◌≡◌, refl, ap}
use mathlib.Core.Bool.{Bool, true, false, ◌&&◌}
use mathlib.Core.List.{List, [], ◌∷◌}
use Prim.Native.Nat.{ℕ, zero, suc, ◌+◌, ◌≤◌, ◌<◌}
use Prim.Native.String.{String}
use native.Mathlib.Omega.{arith}
use lib.Dec.{T, leb, lit≤}
use lib.ListN.{length, get_or, get_or-eq_default}
use Rattle.ascii.specs.Texts.{codes}
use Rattle.texts.specs.declared.Meaning.{Meaning}
use Rattle.texts.specs.Meanings.{refusal_texts, verdict_texts, refusal_text, verdict_text, telling_of, text_bytes}

both : (a b : Bool) → T (a && b) → T a × T b
both true b h = (tt, h)
both false b h = absurd h

-- Whether a text is short, and whether every text of a list is: computed from the texts.
abbrev short : String → Bool
short t = leb (length (codes t)) text_bytes

abbrev all_short : List String → Bool
all_short [] = true
all_short (t ∷ ts) = short t && all_short ts

picked_fits : (texts : List String) (none : String) → T (short none) → T (all_short texts) → (k : ℕ) →
    length (codes (get_or texts k none)) ≤ text_bytes
picked_fits [] none n s k = lit≤ n
picked_fits (t ∷ ts) none n s zero = lit≤ (both (short t) (all_short ts) s).0
picked_fits (t ∷ ts) none n s (suc k) = picked_fits ts none n (both (short t) (all_short ts) s).1 k

pub text_fits : (what : Meaning) (number : ℕ) → length (telling_of what number) ≤ text_bytes
text_fits Meaning.Refusal number = picked_fits refusal_texts "no such refusal" tt tt number
text_fits Meaning.Verdict number = picked_fits verdict_texts "no such verdict" tt tt number

-- A number is none of the k numbers from a first one on, as the arms of a match leave it.
abbrev Left : ℕ → ℕ → ℕ → Type 0
Left from zero n = Unit {0}
Left from (suc k) n = Left from k n × (n ≡ from + k → ⊥)

left_above : (from k n : ℕ) → from ≤ n → Left from k n → from + k ≤ n
left_above from zero n h l = omega arith
left_above from (suc k) n h l = omega (arith, left_above from k n h l.0, l.1)

-- What is left of the numbers below 11 is 0; above 22 there is no refusal, and above 8 no verdict.
pub no_early_refusal : (why : ℕ) → why < 11 → Left 1 10 why → why ≡ 0
no_early_refusal zero h l = refl
no_early_refusal (suc n) h l = absurd (omega (arith, left_above 1 10 (suc n) (omega arith) l))

pub no_refusal : (why : ℕ) → 10 < why → Left 11 12 why → refusal_text why ≡ codes "no such refusal"
no_refusal why h l =
    ap codes (get_or-eq_default refusal_texts "no such refusal" {n = why} (omega (arith, left_above 11 12 why (omega arith) l)))

pub no_verdict : (number : ℕ) → Left 1 8 number → verdict_text number ≡ codes "no such verdict"
no_verdict zero l = refl
no_verdict (suc n) l =
    ap codes (get_or-eq_default verdict_texts "no such verdict" {n = suc n} (omega (arith, left_above 1 8 (suc n) (omega arith) l)))
