-- An accepted list packed into a lent buffer, a number at each turn, and the whole answer put together.
use Rattle.std.specs.Prelude.{Result, Ok, Err}
use Rattle.checks.specs.declared.refusals.Refusal.{Refusal}
use mathlib.Core.Path.{◌≡◌, refl, sym, ap, ◌∙◌}
use mathlib.Core.List.{List, [], ◌∷◌, ◌++◌}
use Prim.Native.Nat.{ℕ, suc, ◌+◌, ◌≤◌, ◌<◌}
use native.Mathlib.Nat.{add-zero, add-suc, suc-add}
use native.Mathlib.Numerals.{add-one}
use native.Mathlib.Omega.{arith}
use borrow.Author.Tests.{le-leb, lt-leb}
use lib.Dec.{lit<}
use lib.ListN.{length, get_or, take, set, drop, length-append, drop_of_length-le}
use lib.Seq.{sets, length-sets, drop-cons}
use Rattle.checks.specs.declared.refusals.Document.{Document}
use Rattle.groups.specs.Groups.{encode, groups, pack}
use Rattle.documents.specs.Walk.{Outcome, read_head, final, form}
use Rattle.documents.specs.State.{start}
use Rattle.documents.specs.Layout.{form_of}
use Rattle.scanning.specs.Runs.{scanned}
use Rattle.reader.specs.Answer.{packed_as, Tells, kept}
use Rattle.reader.specs.Steps.{most_bytes}
use Rattle.grid.proofs.Cases.{never}
use Rattle.reader.proofs.Telling.{refuses, counts}
use Rattle.documents.proofs.WalkLaws.{Accepted, good_take, form_accepts}
use Rattle.documents.proofs.Undoing.{packed_unpacks}
use Rattle.documents.proofs.LayoutLaws.{number_small, start_known, known_final, body_few, good_short}

-- An accepted list is its own numbers, and its bytes are few enough to count.
pub record Packs (p : Document) (list : List ℕ) : Type 0 where
  pub same : form (form_of p) read_head list ≡ Ok list
  pub short : length (pack list) ≤ most_bytes

whole_numbers : (o : Outcome) (k : ℕ) → Ok k ≡ scanned o → (xs : List ℕ) × (o ≡ Ok xs)
whole_numbers (Err w) k e = never cc
whole_numbers (Ok xs) k e = (xs, refl)

accepted_short : (p : Document) (xs : List ℕ) → Accepted (form_of p) xs → length (pack xs) ≤ most_bytes
accepted_short p xs a =
    let k = known_final p start (take 3 xs) start_known (good_take (form_of p) start 3 xs a.good) in
    omega (arith, a.count, body_few p (final (form_of p) start (take 3 xs)) k, good_short p start xs a.good)

pub packs : (p : Document) (list : List ℕ) (k : ℕ) → Ok k ≡ scanned (form (form_of p) read_head list) → Packs p list
packs p list k e =
    let t = whole_numbers (form (form_of p) read_head list) k e in
    let l = (packed_unpacks (form_of p) groups (lit< tt) (number_small p) list t.0 t.1).0 in
    record {
      same = t.1 ∙ ap Ok (sym l);
      short = rw l (accepted_short p t.0 (form_accepts (form_of p) read_head list t.0 t.1).0);
    }

-- The bytes of the numbers from k on.
left : (list : List ℕ) (k : ℕ) → k < length list → pack (drop k list) ≡ encode (get_or list k 0) ++ pack (drop (suc k) list)
left list k h = rw (drop-cons list k 0 h)

sets_append : (vs ws out : List ℕ) (at : ℕ) → sets out at (vs ++ ws) ≡ sets (sets out at vs) (at + length vs) ws
sets_append [] ws out at = rw (add-zero at)
sets_append (v ∷ vs) ws out at = rw (add-suc at (length vs), ← suc-add at (length vs)) (sets_append vs ws (set out at v) (suc at))

-- After k numbers: the bytes that are left, written from here on, make the whole.
pub record Packing (list lent out : List ℕ) (k here : ℕ) : Type 0 where
  pub turns : k ≤ length list
  pub long : length out ≡ length lent
  pub ends : here + length (pack (drop k list)) ≡ length (pack list)
  pub same : sets out here (pack (drop k list)) ≡ sets lent 0 (pack list)

pub packing_starts : (list lent : List ℕ) → Packing list lent lent 0 0
packing_starts list lent = record { turns = omega arith; long = refl; ends = omega arith; same = refl }

module _ {list lent out : List ℕ} {k here : ℕ} (r : Packing list lent out k here) where
  pub packing_ends : length list ≤ k → out ≡ sets lent 0 (pack list)
  packing_ends h = rw (drop_of_length-le list h) at r.same

  module _ (x : ℕ) (h : k < length list) (e : x ≡ get_or list k 0) where
    parts : pack (drop k list) ≡ encode x ++ pack (drop (suc k) list)
    parts = left list k h ∙ ap (λ (v : ℕ). encode v ++ pack (drop (suc k) list)) (sym e)

    sizes : here + length (encode x) + length (pack (drop (suc k) list)) ≡ length (pack list)
    sizes = omega (arith, r.ends, ap length parts, length-append (encode x) (pack (drop (suc k) list)))

    pub packing_room : length (pack list) ≤ length lent → here + length (encode x) ≤ length out
    packing_room f = omega (arith, r.long, sizes)

    pub packing_turns : (next : ℕ) (more : List ℕ) → more ≡ sets out here (encode x) → next ≡ here + length (encode x) →
        Packing list lent more (k + 1) next
    packing_turns next more f g =
        rw (add-one k, f, g)
        (record {
          turns = omega arith;
          long = length-sets out here (encode x) ∙ r.long;
          ends = sizes;
          same = sym (sets_append (encode x) (pack (drop (suc k) list)) out here) ∙ (rw parts at r.same);
        })

-- After k numbers: the bytes so far and those that are left.
pub record Summing (list : List ℕ) (k total : ℕ) : Type 0 where
  pub turns : k ≤ length list
  pub ends : total + length (pack (drop k list)) ≡ length (pack list)

pub summing_starts : (list : List ℕ) → Summing list 0 0
summing_starts list = record { turns = omega arith; ends = omega arith }

pub summing_turns : (list : List ℕ) (k total n : ℕ) → Summing list k total → k < length list → n ≡ length (encode (get_or list k 0)) →
    Summing list (k + 1) (total + n)
summing_turns list k total n r h f =
    rw (add-one k)
    (record {
      turns = omega arith;
      ends = omega (arith, r.ends, ap length (left list k h), length-append (encode (get_or list k 0)) (pack (drop (suc k) list)), f);
    })

pub summing_ends : (list : List ℕ) (k total : ℕ) → Summing list k total → length list ≤ k → total ≡ length (pack list)
summing_ends list k total r h = omega (arith, rw (drop_of_length-le list h) at r.ends)

-- The whole answer from that of the check.
abbrev pub Answers : List ℕ → Outcome → Result ℕ Refusal → List ℕ → Type 0
Answers lent o r out = Tells r (length lent) (packed_as o) × (out ≡ kept lent (packed_as o))

pub pack_refused : (o : Outcome) (lent : List ℕ) (w : Refusal) → Err w ≡ scanned o → Answers lent o (Err w) lent
pack_refused (Err v) lent w e = let d : w ≡ v = cc in (refuses _ v (ap Err d), refl)
pack_refused (Ok xs) lent w e = never cc

pub pack_short : (p : Document) (list lent : List ℕ) → Packs p list → length lent < length (pack list) →
    Answers lent (form (form_of p) read_head list) (Err Refusal.NoRoom) lent
pack_short p list lent a h = let l = lt-leb (length (pack list)) (length lent) h in rw a.same (rw l (refuses _ Refusal.NoRoom refl), rw l)

pub pack_done : (p : Document) (list lent out : List ℕ) (n : ℕ) → Packs p list → n ≡ length (pack list) → n ≤ length lent →
    out ≡ sets lent 0 (pack list) → Answers lent (form (form_of p) read_head list) (Ok n) out
pack_done p list lent out n a e h f =
    let l = le-leb (length (pack list)) (length lent) (omega arith) in rw a.same (rw l (counts _ _ (ap Ok e)), rw l f)
