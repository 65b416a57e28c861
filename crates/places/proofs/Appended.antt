-- A list that is refused otherwise than by ending early is refused so with anything appended: a walk never looks past the number that it
-- refuses.
-- Assumes nothing.
use mathlib.Core.Path.{◌≡◌, refl, sym, ap, ◌∙◌}
use mathlib.Core.List.{List, [], ◌∷◌, ◌++◌}
use Prim.Native.Nat.{ℕ, zero, suc}
use Rattle.std.specs.Prelude.{Ok, Err}
use Rattle.checks.specs.declared.refusals.Refusal.{Refusal}
use Rattle.checks.specs.Refusals.{Checked}
use Rattle.grid.proofs.Cases.{never}
use Rattle.documents.specs.Walk.{Form, Taken, Refused, Took, read_head, unless, with, next, closed, final, walk, rest, form}

-- With c appended to its source, what was taken is taken, and c is left too; a refusal other than `early` stays.
abbrev More : Refusal → List ℕ → Taken → Taken → Type 0
More early c (Refused w) t = (w ≡ early → ⊥) → t ≡ Refused w
More early c (Took xs b) t = t ≡ Took xs (b ++ c)

more_unless : (early : Refusal) (c : List ℕ) (f : Checked) (t u : Taken) → More early c t u → More early c (unless f t) (unless f u)
more_unless early c (Ok x) t u m = m
more_unless early c (Err w) t u m = λ h. refl

more_with : (early : Refusal) (c xs : List ℕ) (t u : Taken) → More early c t u → More early c (with xs t) (with xs u)
more_with early c xs (Refused w) u m = λ h. ap (with xs) (m h)
more_with early c xs (Took ys b) u m = ap (with xs) m

more_next : (early : Refusal) (c : List ℕ) (t u : Taken) (go : List ℕ → List ℕ → Taken) →
    ((xs b : List ℕ) → More early c (go xs b) (go xs (b ++ c))) → More early c t u → More early c (next t go) (next u go)
more_next early c (Refused w) u go g m = λ h. ap (λ (t : Taken). next t go) (m h)
more_next early c (Took xs b) u go g m = rw m (more_with early c xs (go xs b) (go xs (b ++ c)) (g xs b))

module _ (F : Form) (c : List ℕ) where
  more_walk : (k : ℕ) (s : F.State) (a : List ℕ) →
      More F.refusals.ends c (walk F read_head k s a) (walk F read_head k s (a ++ c))
  unfolding walk
  more_walk zero s a = refl
  more_walk (suc k) s [] = λ h. absurd (h refl)
  more_walk (suc k) s (x ∷ a) =
      more_unless F.refusals.ends c (F.fault s x) (with (x ∷ []) (walk F read_head k (F.after s x) a))
      (with (x ∷ []) (walk F read_head k (F.after s x) (a ++ c)))
      (more_with F.refusals.ends c (x ∷ []) (walk F read_head k (F.after s x) a) (walk F read_head k (F.after s x) (a ++ c))
      (more_walk k (F.after s x) a))

  more_closed : (t u : Taken) (w : Refusal) → More F.refusals.ends c t u → closed F.refusals t ≡ Err w → (w ≡ F.refusals.ends → ⊥) →
      closed F.refusals u ≡ Err w
  more_closed (Refused v) u w m e h = let d : v ≡ w = cc in rw (m (λ f. h (sym d ∙ f))) e
  more_closed (Took xs []) u w m e h = never cc
  more_closed (Took xs (b ∷ r)) u w m e h = rw m e

  pub refused_stays : (a : List ℕ) (w : Refusal) → form F read_head a ≡ Err w → (w ≡ F.refusals.ends → ⊥) →
      form F read_head (a ++ c) ≡ Err w
  unfolding form
  refused_stays a w e h =
      let t = walk F read_head F.head F.start a in
      let u = walk F read_head F.head F.start (a ++ c) in
      more_closed (next t (rest F read_head)) (next u (rest F read_head)) w
      (more_next F.refusals.ends c t u (rest F read_head)
      (λ xs b. more_walk (F.body (final F F.start xs)) (final F F.start xs) b)
      (more_walk F.head F.start a)) e h
