-- The numbers of an accepted document written into a lent list, one at each turn, and the whole answer put together.
use Rattle.std.specs.Prelude.{Ok, Err}
use Rattle.checks.specs.declared.refusals.Refusal.{Refusal}
use mathlib.Core.Path.{◌≡◌, refl, sym, ap, ◌∙◌}
use mathlib.Core.List.{List, [], ◌∷◌}
use Prim.Native.Nat.{ℕ, zero, suc, ◌+◌, ◌-◌, ◌≤◌, ◌<◌}
use native.Mathlib.Numerals.{add-one}
use native.Mathlib.Omega.{arith}
use borrow.Author.Tests.{le-leb, lt-leb}
use lib.Dec.{lit<}
use lib.ListN.{length, get_or, set, take, drop, length-set, drop_of_length-le}
use lib.Seq.{sets, drop-cons, length-take-le}
use Rattle.checks.specs.declared.refusals.Document.{Document}
use Rattle.documents.specs.declared.State.{State}
use Rattle.groups.specs.declared.Got.{Got}
use Rattle.groups.specs.Groups.{Read, Number, Ends, TooLong, Padded, bytes, placed}
use Rattle.documents.specs.Walk.{Outcome, read_head, form}
use Rattle.documents.specs.State.{start}
use Rattle.documents.specs.Layout.{after_in, form_of}
use Rattle.scanning.specs.Runs.{scanned}
use Rattle.reader.specs.Answer.{Tells, kept}
use Rattle.documents.specs.Walk.{Gives}
use Rattle.reader.specs.Steps.{first_numbers, Fillable}
use Rattle.grid.proofs.Cases.{never}
use Rattle.groups.proofs.Ends.{EndOf, end_trans, end_place}
use Rattle.reader.proofs.Telling.{refuses, counts}
use Rattle.documents.proofs.WalkLaws.{Good, form_accepts, accepts_form}
use Rattle.documents.proofs.LayoutLaws.{number_small}
use Rattle.scanning.specs.Sources.{bytes-ending}

-- The numbers of an outcome.
abbrev pub listed : Outcome → List ℕ
listed (Err w) = []
listed (Ok xs) = xs

whole_listed : (o : Outcome) (k : ℕ) → Ok k ≡ scanned o → (o ≡ Ok (listed o)) × (k ≡ length (listed o))
whole_listed (Err w) k e = never cc
whole_listed (Ok xs) k e = (refl, cc)

good_words : (p : Document) (s : State) (xs : List ℕ) → Good (form_of p) s xs → (i : ℕ) → get_or xs i 0 < 65536
good_words p s [] g i = lit< tt
good_words p s (x ∷ xs) g zero = omega (arith, number_small p s x g.0)
good_words p s (x ∷ xs) g (suc i) = good_words p (after_in p s x) xs g.1 i

-- The first numbers of bytes are those that the bytes give.
first-given : (s xs b : List ℕ) → Gives bytes s xs b → first_numbers (length xs) s ≡ xs
unfolding first_numbers
first-given s [] b g = refl
first-given s (x ∷ xs) b g = rw g.1 (ap (λ (l : List ℕ). x ∷ l) (first-given g.0 xs b g.2))

-- Bytes that were scanned can be filled in.
pub scanned_fills : (p : Document) (s : List ℕ) (k : ℕ) → Ok k ≡ scanned (form (form_of p) bytes s) →
    Fillable s k × (first_numbers k s ≡ listed (form (form_of p) bytes s))
scanned_fills p s k e =
    let xs = listed (form (form_of p) bytes s) in
    let d = whole_listed (form (form_of p) bytes s) k e in
    let a = form_accepts (form_of p) bytes s xs d.0 in
    let f : first_numbers k s ≡ xs = rw d.1 (first-given s xs [] a.1) in
    (record { long = ap length f ∙ sym d.1; gives = rw f a.1; words = rw f (good_words p start xs a.0.good) }, f)

-- After k numbers: those that are left come from here, and written from place k on they make the whole.
pub record Filling (s lent list xs : List ℕ) (here k : ℕ) : Type 0 where
  pub turns : k ≤ length xs
  pub within : here ≤ length s
  pub gives : Gives bytes (drop here s) (drop k xs) []
  pub words : (i : ℕ) → get_or xs i 0 < 65536
  pub long : length list ≡ length lent
  pub same : sets list k (drop k xs) ≡ sets lent 0 xs

pub filling_starts : (s lent : List ℕ) (k : ℕ) → Fillable s k → Filling s lent lent (first_numbers k s) 0 0
filling_starts s lent k f =
    record { turns = omega arith; within = omega arith; gives = f.gives; words = f.words; long = refl; same = refl }

-- What a place that was answered says of the bytes there.
placed_number : (n : ℕ) (r : Read) (x p : ℕ) → Got.Number x p ≡ placed n r → (rest : List ℕ) × (r ≡ Number x rest) × (p ≡ n - length rest)
placed_number n (Number y rest) x p e = (rest, cc, cc)
placed_number n Ends x p e = never cc
placed_number n TooLong x p e = never cc
placed_number n Padded x p e = never cc

at_number : (s : List ℕ) (at x p : ℕ) → at ≤ length s → Got.Number x p ≡ placed (length s) (bytes (drop at s)) →
    (bytes (drop at s) ≡ Number x (drop p s)) × (p ≤ length s)
at_number s at x p h e =
    let t = placed_number (length s) (bytes (drop at s)) x p e in
    let a : EndOf (drop at s) s = record { at = at; within = h; same = refl } in
    let d = end_place t.0 s (end_trans t.0 (drop at s) s (bytes-ending (drop at s) x t.0 t.1) a) in
    (t.1 ∙ ap (Number x) (sym d ∙ ap (λ (k : ℕ). drop k s) (sym t.2)), omega (arith, t.2))

module _ {s lent list xs : List ℕ} {here k : ℕ} (r : Filling s lent list xs here k) where
  pub filling_ends : length xs ≤ k → list ≡ sets lent 0 xs
  filling_ends h = rw (drop_of_length-le xs h) at r.same

  gives_next : k < length xs → Gives bytes (drop here s) (get_or xs k 0 ∷ drop (suc k) xs) []
  gives_next h = rw (drop-cons xs k 0 h) at r.gives

  -- a number is there
  pub filling_finds : k < length xs → (p : ℕ) × (Got.Number (get_or xs k 0) p ≡ placed (length s) (bytes (drop here s)))
  filling_finds h = let g = gives_next h in (length s - length g.0, rw g.1)

  module _ (v p : ℕ) (h : k < length xs) (e : Got.Number v p ≡ placed (length s) (bytes (drop here s))) where
    is_next : (v ≡ get_or xs k 0) × (drop p s ≡ (gives_next h).0)
    is_next = let a = (at_number s here v p r.within e).0 in let b = (gives_next h).1 in (cc, cc)

    pub filling_word : v < 65536
    filling_word = omega (arith, r.words k, is_next.0)

    pub filling_turns : Filling s lent (set list k v) xs p (k + 1)
    filling_turns = record {
      turns = omega arith;
      within = (at_number s here v p r.within e).1;
      gives = rw (add-one k, is_next.1) (gives_next h).2;
      words = r.words;
      long = length-set list k v ∙ r.long;
      same = rw (add-one k, is_next.0) (rw (drop-cons xs k 0 h) at r.same);
    }

-- After k numbers of xs were copied: those that are left, written from place k on, make the whole.
pub record Copying (xs lent list : List ℕ) (k : ℕ) : Type 0 where
  pub turns : k ≤ length xs
  pub long : length list ≡ length lent
  pub same : sets list k (drop k xs) ≡ sets lent 0 xs

pub copying_starts : (xs lent : List ℕ) → Copying xs lent lent 0
copying_starts xs lent = record { turns = omega arith; long = refl; same = refl }

pub copying_turns : (xs lent list : List ℕ) (k : ℕ) → Copying xs lent list k → k < length xs →
    Copying xs lent (set list k (get_or xs k 0)) (k + 1)
copying_turns xs lent list k r h = record {
  turns = omega arith;
  long = length-set list k (get_or xs k 0) ∙ r.long;
  same = rw (add-one k) (rw (drop-cons xs k 0 h) at r.same);
}

pub copying_ends : (xs lent list : List ℕ) (k : ℕ) → Copying xs lent list k → length xs ≤ k → list ≡ sets lent 0 xs
copying_ends xs lent list k r h = rw (drop_of_length-le xs h) at r.same

-- The whole answer from that of the scan.
pub reply_refused : (o : Outcome) (lent : List ℕ) (w : Refusal) → Err w ≡ scanned o →
    Tells (Err w) (length lent) o × (lent ≡ kept lent o)
reply_refused (Err v) lent w e = let d : w ≡ v = cc in (refuses _ v (ap Err d), refl)
reply_refused (Ok xs) lent w e = never cc

pub reply_short : (o : Outcome) (lent : List ℕ) (k : ℕ) → Ok k ≡ scanned o → length lent < k →
    Tells (Err Refusal.NoRoom) (length lent) o × (lent ≡ kept lent o)
reply_short (Err v) lent k e h = never cc
reply_short (Ok xs) lent k e h =
    let n : k ≡ length xs = cc in
    let l = lt-leb (length xs) (length lent) (omega arith) in
    (rw l (refuses _ Refusal.NoRoom refl), rw l)

pub reply_done : (o : Outcome) (lent list : List ℕ) (k : ℕ) → Ok k ≡ scanned o → k ≤ length lent → list ≡ sets lent 0 (listed o) →
    Tells (Ok k) (length lent) o × (list ≡ kept lent o)
reply_done (Err v) lent list k e h f = never cc
reply_done (Ok xs) lent list k e h f =
    let n : k ≡ length xs = cc in let l = le-leb (length xs) (length lent) (omega arith) in (rw l (counts _ (length xs) (ap Ok n)), rw l f)

pub reply-filled : (p : Document) (s lent list : List ℕ) (k : ℕ) → Ok k ≡ scanned (form (form_of p) bytes s) → k ≤ length lent →
    list ≡ sets lent 0 (first_numbers k s) →
    Tells (Ok k) (length lent) (form (form_of p) bytes s) × (list ≡ kept lent (form (form_of p) bytes s))
reply-filled p s lent list k e h f = reply_done (form (form_of p) bytes s) lent list k e h (f ∙ ap (sets lent 0) (scanned_fills p s k e).1)

-- Ok that bytes give, whole, and that are accepted as a list, are those of the bytes.
pub record Decoded (p : Document) (s xs : List ℕ) (count : ℕ) : Type 0 where
  pub whole : form (form_of p) bytes s ≡ Ok xs
  pub long : length xs ≡ count

pub decoded : (p : Document) (s own xs : List ℕ) (count : ℕ) →
    (0 < count → (count ≤ length own) × Gives bytes s (take count own) []) → xs ≡ take count own →
    form (form_of p) read_head xs ≡ Ok xs → Decoded p s xs count
decoded p s own xs zero gives e f =
    let a = (form_accepts (form_of p) read_head xs xs f).0 in absurd (omega (arith, a.count, ap length e))
decoded p s own xs (suc k) gives e f =
    let g = gives (omega arith) in record {
      whole = accepts_form (form_of p) bytes s xs (form_accepts (form_of p) read_head xs xs f).0 (rw e g.1);
      long = ap length e ∙ length-take-le (suc k) own g.0;
    }

module _ {p : Document} {s xs : List ℕ} {count : ℕ} (d : Decoded p s xs count) (lent : List ℕ) where
  counts_them : Ok count ≡ scanned (form (form_of p) bytes s)
  counts_them = rw d.whole (ap Ok (sym d.long))

  pub decoded_short : length lent < count →
      Tells (Err Refusal.NoRoom) (length lent) (form (form_of p) bytes s) × (lent ≡ kept lent (form (form_of p) bytes s))
  decoded_short h = reply_short (form (form_of p) bytes s) lent count counts_them h

  pub decoded_done : (list : List ℕ) → count ≤ length lent → list ≡ sets lent 0 xs →
      Tells (Ok count) (length lent) (form (form_of p) bytes s) × (list ≡ kept lent (form (form_of p) bytes s))
  decoded_done list h f = reply_done (form (form_of p) bytes s) lent list count counts_them h (rw d.whole f)
