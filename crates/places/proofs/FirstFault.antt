-- The place of the first fault is the place of the refusal: the list up to there is refused as the whole is, whatever follows, and no
-- shorter beginning is faulty. A list that is accepted, or refused because it ends early, has its length as the place.
-- Assumes nothing.
use mathlib.Core.Path.{◌≡◌, refl, ap, ◌∙◌}
use mathlib.Core.Bool.{true, false}
use mathlib.Core.Logic.{◌⊎◌, ⊎_elim, inl, inr}
use mathlib.Core.List.{List, [], ◌++◌}
use Prim.Native.Nat.{ℕ, zero, suc, ◌≤◌, ◌<◌}
use native.Mathlib.Omega.{arith}
use borrow.Author.Tests.{ne_eqb, eqb-false, not-true}
use lib.ListN.{length, take, drop, take-append-drop}
use lib.Seq.{take-length}
use Rattle.std.specs.Prelude.{Ok, Err}
use Rattle.grid.proofs.Cases.{never, lt_or_le}
use Rattle.grid.proofs.FirstPlaces.{first-first}
use Rattle.checks.specs.declared.refusals.Document.{Document}
use Rattle.checks.specs.declared.refusals.Refusal.{Refusal}
use Rattle.checks.specs.Refusals.{refusals_of, number_of, same}
use Rattle.checks.proofs.RefusalLaws.{same_number, refusal_eq_or_ne}
use Rattle.documents.specs.Walk.{Outcome, read_head, walk, form}
use Rattle.documents.specs.Layout.{form_of}
use Rattle.places.specs.Places.{refused_otherwise, faulty, faulty_at, place_in}
use Rattle.places.proofs.Appended.{refused_stays}

-- What faulty means.
otherwise_refused : (last : Refusal) (o : Outcome) → refused_otherwise last o ≡ true → (w : Refusal) × (o ≡ Err w) × (w ≡ last → ⊥)
otherwise_refused last (Err w) e =
    (w, refl, λ d. eqb-false (number_of w) (number_of last) (not-true (same w last) e) (ap number_of d))
otherwise_refused last (Ok xs) e = never cc

refused_otherwise_lem : (last w : Refusal) (o : Outcome) → o ≡ Err w → (w ≡ last → ⊥) → refused_otherwise last o ≡ true
refused_otherwise_lem last w o e h = rw (e, ne_eqb (number_of w) (number_of last) (λ d. h (same_number w last d)))

-- the empty beginning ends early, of any document
empty_faultless : (p : Document) → faulty p [] ≡ false
unfolding form walk
empty_faultless Document.Ticket = refl
empty_faultless (Document.Settlement n m) = refl

module _ (p : Document) (l : List ℕ) where
  -- the refusal of a faulty beginning is that of the whole
  whole_refused : (k : ℕ) → faulty p (take k l) ≡ true →
      (w : Refusal) × (form (form_of p) read_head (take k l) ≡ Err w) × (form (form_of p) read_head l ≡ Err w) × (w ≡ (refusals_of p).ends → ⊥)
  whole_refused k e =
      let r = otherwise_refused (refusals_of p).ends (form (form_of p) read_head (take k l)) e in
      let s = refused_stays (form_of p) (drop k l) (take k l) r.0 r.1 r.2 in
      (r.0, r.1, rw (take-append-drop k l) at s, r.2)

  -- no beginning that ends before the first fault is faulty
  none_sooner : (k : ℕ) → k ≤ place_in p l → faulty p (take k l) ≡ false
  none_sooner zero h = empty_faultless p
  none_sooner (suc k) h = (first-first (faulty_at p l) (length l)).before k (omega arith)

  -- The number at the place decides the refusal w.
  pub record Decides (w : Refusal) (place : ℕ) : Type 0 where
    pub below : place < length l
    pub refused : form (form_of p) read_head (take (suc place) l) ≡ Err w
    pub whatever : (c : List ℕ) → form (form_of p) read_head (take (suc place) l ++ c) ≡ Err w
    pub sooner : (k : ℕ) → k ≤ place → faulty p (take k l) ≡ false
    pub other : w ≡ (refusals_of p).ends → ⊥

  decides : (w : Refusal) → form (form_of p) read_head l ≡ Err w → place_in p l < length l → Decides w (place_in p l)
  decides w e h =
      let place = place_in p l in
      let f = whole_refused (suc place) ((first-first (faulty_at p l) (length l)).there h) in
      let d : f.0 ≡ w = cc in
      let r : form (form_of p) read_head (take (suc place) l) ≡ Err w = f.1 ∙ ap (λ (v : Refusal). Err v) d in
      let o : w ≡ (refusals_of p).ends → ⊥ = λ x. f.3 (d ∙ x) in
      record {
        below = h;
        refused = r;
        whatever = λ c. refused_stays (form_of p) c (take (suc place) l) w r o;
        sooner = none_sooner;
        other = o;
      }

  pub first_fault : (w : Refusal) → form (form_of p) read_head l ≡ Err w →
      ((w ≡ (refusals_of p).ends) × (place_in p l ≡ length l)) ⊎ Decides w (place_in p l)
  first_fault w e = ⊎_elim
      (λ h. inr (decides w e h))
      (λ h. let same : place_in p l ≡ length l = omega (arith, (first-first (faulty_at p l) (length l)).below) in
      ⊎_elim (λ x. inl (x, same))
      (λ o. let t : faulty p l ≡ true = refused_otherwise_lem (refusals_of p).ends w (form (form_of p) read_head l) e o in
      let n : faulty p l ≡ false = rw (take-length l) at (none_sooner (length l) h) in
      never (cc))
      (refusal_eq_or_ne w (refusals_of p).ends))
      (lt_or_le (place_in p l) (length l))

  pub accepted_place : (xs : List ℕ) → form (form_of p) read_head l ≡ Ok xs → place_in p l ≡ length l
  accepted_place xs e = ⊎_elim
      (λ h. never (cc (whole_refused (suc (place_in p l)) ((first-first (faulty_at p l) (length l)).there h)).2))
      (λ h. omega (arith, (first-first (faulty_at p l) (length l)).below))
      (lt_or_le (place_in p l) (length l))
