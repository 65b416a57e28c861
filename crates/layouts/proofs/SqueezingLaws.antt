-- A text squeezed byte by byte: what is left, squeezed from here on, makes the whole.
-- Assumes nothing.
use mathlib.Core.Path.{◌≡◌, refl, sym, ap, ◌∙◌}
use mathlib.Core.List.{List, [], ◌∷◌, ◌++◌, append_assoc}
use Prim.Native.Nat.{ℕ, suc, ◌+◌, ◌≤◌, ◌<◌}
use native.Mathlib.Numerals.{add-one}
use native.Mathlib.Omega.{arith}
use lib.ListN.{length, get_or, drop, drop_of_length-le}
use lib.Seq.{drop-cons}
use Rattle.ascii.specs.Writing.{Wrote}
use Rattle.ascii.proofs.PageWriting.{wrote_nothing, wrote_then, wrote_same}
use Rattle.layouts.specs.declared.squeezing.Mode.{Mode}
use Rattle.layouts.specs.declared.squeezing.Mode.TheVariants.{Gap}
use Rattle.std.specs.Prelude.{Option}
use Rattle.layouts.specs.Squeezed.{next_mode, given, emitted, last_of, bytes_in, squeeze_from, squeezed}

pub squeeze_end : (mode : Mode) → squeeze_from mode [] ≡ bytes_in (last_of mode)
unfolding squeeze_from
squeeze_end mode = refl

pub squeeze_more : (mode : Mode) (b : ℕ) (rest : List ℕ) → squeeze_from mode (b ∷ rest) ≡ emitted mode b ++ squeeze_from (next_mode mode b) rest
unfolding squeeze_from
squeeze_more mode b rest = refl

-- After k bytes.
pub record Squeezing (page page' text : List ℕ) (mode : Mode) (count k : ℕ) : Type 0 where
  pub done : List ℕ
  pub wrote : Wrote page page' 0 count done
  pub same : squeezed text ≡ done ++ squeeze_from mode (drop k text)
  pub few : count ≤ k

pub squeezing_starts : (page text : List ℕ) → Squeezing page page text Gap 0 0
squeezing_starts page text = record { done = []; wrote = wrote_nothing page 0; same = refl; few = omega arith }

module _ {page page' text : List ℕ} {mode : Mode} {count k : ℕ} (s : Squeezing page page' text mode count k) where
  pub squeezing_turns : {page'' : List ℕ} {next : ℕ} {g : Option ℕ} {after : Mode} (b : ℕ) → k < length text → b ≡ get_or text k 0 →
      g ≡ given mode b → after ≡ next_mode mode b → Wrote page' page'' count next (bytes_in g) × (next ≤ count + 1) →
      Squeezing page page'' text after next (k + 1)
  squeezing_turns {page''} {next} {g} {after} b h eb eg ea w =
      let more = emitted mode b in
      let there : squeeze_from mode (drop k text) ≡ more ++ squeeze_from after (drop (k + 1) text) =
      rw (add-one k, drop-cons text k 0 h, ← eb, ea) (squeeze_more mode b (drop (suc k) text)) in
      record {
        done = s.done ++ more;
        wrote = wrote_then s.wrote (rw eg at w.0);
        same = s.same ∙ ap (λ (r : List ℕ). s.done ++ r) there ∙ sym (append_assoc s.done more (squeeze_from after (drop (k + 1) text)));
        few = omega (arith, w.1, s.few);
      }

  pub squeezing_ends : {page'' : List ℕ} {end : ℕ} {g : Option ℕ} → length text ≤ k → g ≡ last_of mode →
      Wrote page' page'' count end (bytes_in g) × (end ≤ count + 1) → Wrote page page'' 0 end (squeezed text)
  squeezing_ends {page''} {end} {g} h eg w =
      let there : squeezed text ≡ s.done ++ bytes_in (last_of mode) =
      s.same ∙ rw (drop_of_length-le text h, squeeze_end mode) in
      wrote_same _ (sym there) (wrote_then s.wrote (rw eg at w.0))
