-- Laws of the walk, for any form and any source: to walk is to read and to find no fault.
-- What is read is `Gives`, which has no rules in it; that there is no fault is `Good`, which has no source in it.
use Rattle.std.specs.Prelude.{Ok, Err}
use mathlib.Core.Path.{◌≡◌, refl, sym, ap, subst}
use mathlib.Core.List.{List, [], ◌∷◌, ◌++◌}
use Prim.Native.Nat.{ℕ, zero, suc, ◌+◌, ◌<◌}
use native.Mathlib.Nat.{not-suc-le-zero, le_of_suc-le-suc}
use native.Mathlib.Omega.{arith}
use lib.ListN.{length, get_or, take, drop, length-append, length-drop, take-append-drop}
use lib.Seq.{take_at, length-take-le}
use Rattle.checks.specs.declared.refusals.Refusals.{Refusals}
use Rattle.checks.specs.Refusals.{Checked}
use Rattle.groups.specs.Groups.{Read, Number, Ends, TooLong, Padded}
use Rattle.documents.specs.Walk.{Form, Taken, Refused, Took, Source, met, unless, with, next, closed, final, walk, rest, form}
use Rattle.documents.specs.Walk.{Gives}
use Rattle.grid.proofs.Cases.{never}

module _ (F : Form) where
  -- No number of a list has a fault.
  abbrev pub Good : F.State → List ℕ → Type 0
  Good s [] = Unit {0}
  Good s (x ∷ xs) = (F.fault s x ≡ Ok tt) × Good (F.after s x) xs

  -- The numbers that a form accepts.
  pub record Accepted (xs : List ℕ) : Type 0 where
    pub good : Good F.start xs
    pub count : length xs ≡ F.head + F.body (final F F.start (take F.head xs))

pub gives_append : (read : Source) (a : List ℕ) (xs : List ℕ) (b : List ℕ) (ys c : List ℕ) → Gives read a xs b → Gives read b ys c →
    Gives read a (xs ++ ys) c
gives_append read a [] b ys c g h = subst (λ (d : List ℕ). Gives read d ys c) (sym g) h
gives_append read a (x ∷ xs) b ys c g h = (g.0, g.1, gives_append read g.0 xs b ys c g.2 h)

gives_split : (read : Source) (a : List ℕ) (xs ys c : List ℕ) → Gives read a (xs ++ ys) c →
    (b : List ℕ) × Gives read a xs b × Gives read b ys c
gives_split read a [] ys c g = (a, refl, g)
gives_split read a (x ∷ xs) ys c g = let r = gives_split read g.0 xs ys c g.2 in (r.0, (g.0, g.1, r.1), r.2)

-- What was taken, taken apart.
met_took : (w : Refusals) (r : Read) (go : ℕ → List ℕ → Taken) (xs b : List ℕ) → met w r go ≡ Took xs b →
    (x : ℕ) × (c : List ℕ) × (r ≡ Number x c) × (go x c ≡ Took xs b)
met_took w (Number x c) go xs b e = (x, c, refl, e)
met_took w Ends go xs b e = never cc
met_took w TooLong go xs b e = never cc
met_took w Padded go xs b e = never cc

unless_took : (w : Checked) (t : Taken) (xs b : List ℕ) → unless w t ≡ Took xs b → (w ≡ Ok tt) × (t ≡ Took xs b)
unless_took (Ok _) t xs b e = (refl, e)
unless_took (Err w) t xs b e = never cc

with_took : (ys : List ℕ) (t : Taken) (xs b : List ℕ) → with ys t ≡ Took xs b → (zs : List ℕ) × (t ≡ Took zs b) × (xs ≡ ys ++ zs)
with_took ys (Refused w) xs b e = never cc
with_took ys (Took zs c) xs b e = (zs, cc, cc)

next_took : (t : Taken) (go : List ℕ → List ℕ → Taken) (xs b : List ℕ) → next t go ≡ Took xs b →
    (ys : List ℕ) × (c : List ℕ) × (t ≡ Took ys c) × (with ys (go ys c) ≡ Took xs b)
next_took (Refused w) go xs b e = never cc
next_took (Took ys c) go xs b e = (ys, c, refl, e)

closed_took : (w : Refusals) (t : Taken) (xs : List ℕ) → closed w t ≡ Ok xs → t ≡ Took xs []
closed_took r (Refused w) xs e = never cc
closed_took r (Took ys []) xs e = cc
closed_took r (Took ys (b ∷ c)) xs e = never cc

-- To walk is to read and to find no fault.
module _ (F : Form) where
  pub form_parts : (read : Source) (a : List ℕ) →
      form F read a ≡ closed F.refusals (next (walk F read F.head F.start a) (rest F read))
  unfolding form
  form_parts read a = refl

  pub walk_none : (read : Source) (s : F.State) (a : List ℕ) → walk F read 0 s a ≡ Took [] a
  unfolding walk
  walk_none read s a = refl

  pub walk_more : (read : Source) (k : ℕ) (s : F.State) (a : List ℕ) →
      walk F read (suc k) s a ≡ met F.refusals (read a) (λ x b. unless (F.fault s x) (with (x ∷ []) (walk F read k (F.after s x) b)))
  unfolding walk
  walk_more read k s a = refl

  pub record Walked (read : Source) (k : ℕ) (s : F.State) (a xs b : List ℕ) : Type 0 where
    pub count : length xs ≡ k
    pub good : Good F s xs
    pub gives : Gives read a xs b

  pub walk_took : (read : Source) (k : ℕ) (s : F.State) (a xs b : List ℕ) → walk F read k s a ≡ Took xs b → Walked read k s a xs b
  unfolding walk
  walk_took read zero s a xs b e = let n : xs ≡ [] = cc in rw n (record { count = refl; good = tt; gives = cc })
  walk_took read (suc k) s a xs b e =
      let m = met_took F.refusals (read a) (λ x c. unless (F.fault s x) (with (x ∷ []) (walk F read k (F.after s x) c))) xs b e in
      let x = m.0 in
      let u = unless_took (F.fault s x) (with (x ∷ []) (walk F read k (F.after s x) m.1)) xs b m.3 in
      let w = with_took (x ∷ []) (walk F read k (F.after s x) m.1) xs b u.1 in
      let r = walk_took read k (F.after s x) m.1 w.0 b w.1 in
      rw w.2 (record { count = ap suc r.count; good = (u.0, r.good); gives = (m.1, m.2, r.gives) })

  all_taken : (read : Source) (s : F.State) (a xs b : List ℕ) → Good F s xs → Gives read a xs b → walk F read (length xs) s a ≡ Took xs b
  unfolding walk
  all_taken read s a [] b g h = ap (Took []) h
  all_taken read s a (x ∷ xs) b g h = rw (h.1, g.0, all_taken read (F.after s x) h.0 xs b g.1 h.2)

  pub took_walk : (read : Source) (k : ℕ) (s : F.State) (a xs b : List ℕ) → Walked read k s a xs b → walk F read k s a ≡ Took xs b
  took_walk read k s a xs b w = subst (λ (n : ℕ). walk F read n s a ≡ Took xs b) w.count (all_taken read s a xs b w.good w.gives)

  good_append : (s : F.State) (xs ys : List ℕ) → Good F s xs → Good F (final F s xs) ys → Good F s (xs ++ ys)
  good_append s [] ys g h = h
  good_append s (x ∷ xs) ys g h = (g.0, good_append (F.after s x) xs ys g.1 h)

  good_split : (s : F.State) (xs ys : List ℕ) → Good F s (xs ++ ys) → Good F s xs × Good F (final F s xs) ys
  good_split s [] ys g = (tt, g)
  good_split s (x ∷ xs) ys g = let r = good_split (F.after s x) xs ys g.1 in ((g.0, r.0), r.1)

  pub good_take : (s : F.State) (i : ℕ) (xs : List ℕ) → Good F s xs → Good F s (take i xs)
  good_take s i xs g = (good_split s (take i xs) (drop i xs) (rw (take-append-drop i xs) g)).0

  pub good_drop : (s : F.State) (i : ℕ) (xs : List ℕ) → Good F s xs → Good F (final F s (take i xs)) (drop i xs)
  good_drop s i xs g = (good_split s (take i xs) (drop i xs) (rw (take-append-drop i xs) g)).1

  -- each number has no fault in the state that the numbers before it leave
  pub good_at : (s : F.State) (xs : List ℕ) (i : ℕ) → i < length xs → Good F s xs → F.fault (final F s (take i xs)) (get_or xs i 0) ≡ Ok tt
  good_at s [] i h g = absurd (not-suc-le-zero h)
  good_at s (x ∷ xs) zero h g = g.0
  good_at s (x ∷ xs) (suc i) h g = good_at (F.after s x) xs i (le_of_suc-le-suc h) g.1

  -- What a form accepts is the same for every source: numbers that the source gives, whole.
  pub form_accepts : (read : Source) (a xs : List ℕ) → form F read a ≡ Ok xs → Accepted F xs × Gives read a xs []
  unfolding form
  form_accepts read a xs e =
      let h = walk F read F.head F.start a in
      let n = next_took h (rest F read) xs [] (closed_took F.refusals (next h (rest F read)) xs e) in
      let ys = n.0 in
      let c = n.1 in
      let w = with_took ys (rest F read ys c) xs [] n.3 in
      let zs = w.0 in
      let p = walk_took read F.head F.start a ys c n.2 in
      let q = walk_took read (F.body (final F F.start ys)) (final F F.start ys) c zs [] w.1 in
      rw w.2 (
        record {
          good = good_append F.start ys zs p.good q.good;
          count = rw (take_at ys zs F.head p.count) (omega (arith, length-append ys zs, p.count, q.count));
        },
        gives_append read a ys c zs [] p.gives q.gives,
      )

  whole : (read : Source) (a ys zs : List ℕ) → Good F F.start (ys ++ zs) → length ys ≡ F.head →
      length zs ≡ F.body (final F F.start ys) → Gives read a (ys ++ zs) [] → form F read a ≡ Ok (ys ++ zs)
  unfolding form
  whole read a ys zs g p q h =
      let d = good_split F.start ys zs g in
      let c = gives_split read a ys zs [] h in
      rw (
        took_walk read F.head F.start a ys c.0 (record { count = p; good = d.0; gives = c.1 }),
        took_walk read (F.body (final F F.start ys)) (final F F.start ys) c.0 zs []
            (record { count = q; good = d.1; gives = c.2 }),
      )

  pub accepts_form : (read : Source) (a xs : List ℕ) → Accepted F xs → Gives read a xs [] → form F read a ≡ Ok xs
  accepts_form read a xs t h =
      let e = take-append-drop F.head xs in
      subst (λ (l : List ℕ). form F read a ≡ Ok l) e
      (whole read a (take F.head xs) (drop F.head xs)
      (rw e t.good)
      (length-take-le F.head xs (omega (arith, t.count)))
      (omega (arith, length-drop F.head xs, t.count))
      (rw e h))
