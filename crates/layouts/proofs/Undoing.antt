-- What is written is read back: the text of a document gives its numbers again.
-- Assumes nothing.
use mathlib.Core.Path.{◌≡◌, refl, sym, ap, ◌∙◌}
use mathlib.Core.Logic.{⊎_elim}
use mathlib.Core.Bool.{Bool, true, false, cond}
use mathlib.Core.List.{List, [], ◌∷◌, ◌++◌, append_assoc, append-nil}
use Prim.Native.Nat.{ℕ, zero, suc, ◌+◌, ◌-◌, ◌*◌, ◌/◌, ◌%◌, ◌≤◌, ◌<◌}
use native.Mathlib.Nat.{eq-zero-or-pos, div-le_self, mod-le, mul-le-mul}
use native.Mathlib.Omega.{arith}
use borrow.Author.Tests.{le-leb, lt-ltb, eq-eqb}
use lib.Dec.{eqb, ltb, lit<}
use lib.ListN.{length, get_or, take, length-append}
use lib.Seq.{take-suc, take_all, length-take-le, drop-append_seam}
use Rattle.ascii.specs.Decimal.{digit}
use Rattle.ascii.specs.Numeral.{numeral}
use Rattle.ascii.specs.Texts.{codes}
use Rattle.ascii.proofs.NumeralLaws.{one-digit, more_digits}
use Rattle.grid.proofs.Cases.{lt_or_le}
use Rattle.groups.specs.Groups.{bytes}
use Rattle.checks.specs.declared.refusals.Document as checks
use Rattle.documents.specs.declared.State.{State}
use Rattle.documents.specs.State.{start}
use Rattle.documents.specs.Layout.{after_in, form_of}
use Rattle.documents.proofs.WalkLaws.{Good, form_accepts}
use Rattle.documents.proofs.LayoutLaws.{number_small}
use Rattle.std.specs.Prelude.{Some, Ok}
use Rattle.reader.specs.Answer.{unpacked, settlement_read}
use Rattle.reader.proofs.Facts.{unpacked_shape, settlement_shape}
use Rattle.labels.specs.declared.places.Layout.{Layout}
use Rattle.labels.specs.declared.places.Layout.TheVariants.{Ticket, Settlement}
use Rattle.labels.specs.declared.places.Line.{Line}
use Rattle.labels.specs.declared.places.Line.TheVariants.{Head, Grower, Pilot, Pair}
use Rattle.labels.specs.declared.places.Spot.{Spot}
use Rattle.labels.specs.Spots.{hours_of, columns, spot_of}
use Rattle.labels.specs.Words.{lead, kind_name, field_name, opening, spot_label, label}
use Rattle.labels.proofs.LabelLaws.{numeral_short}
use Rattle.layouts.specs.declared.reading.Step.TheVariants.{More}
use Rattle.layouts.specs.Text.{separator, longest, entry_bytes, growers_in, pilots_in, ends_line, entry_at, text_to, text_of, document_text}
use Rattle.layouts.specs.Squeezed.{most_text, squeezed}
use Rattle.layouts.specs.Reading.{starts_with, NumberIs, step_of, digits_read, entry_read, Whole, further, entries_from, entries_in}
use Rattle.layouts.specs.Reading.{most_numbers, DocumentIs, worded, document_in}
use Rattle.layouts.proofs.WalkLaws.{entries_more, entries_none}
use Rattle.layouts.proofs.AnswerLaws.{by_ticket, by_settlement}
use Rattle.layouts.proofs.Tidy.{tight_at, tight_to, squeezed_text}

-- One digit more.
digit_step : (v : ℕ) (seen : Bool) (d : ℕ) → d < 10 → 10 * v + d < 65536 → step_of v seen (digit d) ≡ Some (More (10 * v + d))
digit_step v seen d h b =
    let e : 48 + d - 48 ≡ d = omega arith in
    rw (le-leb 48 (48 + d) (omega arith), le-leb (48 + d) 57 (omega arith), e, lt-ltb (10 * v + d) 65536 b)

digits_step : (v : ℕ) (seen : Bool) (d : ℕ) (rest : List ℕ) → d < 10 → 10 * v + d < 65536 →
    digits_read v seen (digit d ∷ rest) ≡ digits_read (10 * v + d) true rest
unfolding digits_read
digits_step v seen d rest h b = rw (digit_step v seen d h b)

-- the digits of a number give it again
numeral_read : (k n : ℕ) → n ≤ k → n < 65536 → (rest : List ℕ) → digits_read 0 false (numeral n ++ rest) ≡ digits_read n true rest
numeral_read zero n h b rest =
    let e : 10 * 0 + n ≡ n = omega arith in rw (one-digit n (omega arith)) (digits_step 0 false n rest (omega arith) (omega arith) ∙ rw e)
numeral_read (suc k) n h b rest = ⊎_elim
    (λ z. let e : 10 * 0 + n ≡ n = omega arith in
    rw (one-digit n (omega arith)) (digits_step 0 false n rest (omega arith) (omega arith) ∙ rw e))
    (λ z.
    let d = digit (n % 10) ∷ [] in
    let e : 10 * (n / 10) + n % 10 ≡ n = omega arith in
    rw (more_digits n (omega arith), append_assoc (numeral (n / 10)) d rest)
    (numeral_read k (n / 10) (omega arith) (omega arith) (d ++ rest) ∙ digits_step (n / 10) true (n % 10) rest (omega arith) (omega arith) ∙ rw e))
    (eq-zero-or-pos (n / 10))

number_read : (x : ℕ) (rest : List ℕ) → x < 65536 → digits_read 0 false ((numeral x ++ codes " ") ++ rest) ≡ NumberIs x rest
unfolding digits_read
number_read x rest h = rw (append_assoc (numeral x) (codes " ") rest) (numeral_read x x (omega arith) h (32 ∷ rest))

starts_append : (a b : List ℕ) → starts_with a (a ++ b) ≡ true
starts_append [] b = refl
starts_append (x ∷ a) b = rw (eq-eqb x x refl) (starts_append a b)

-- an entry gives its number
entry_back : (l : Layout) (n m p x : ℕ) (rest : List ℕ) → x < 65536 →
    entry_read l n m p ((label l n m p ++ (numeral x ++ codes " ")) ++ rest) ≡ NumberIs x rest
entry_back l n m p x rest h =
    let after = (numeral x ++ codes " ") ++ rest in
    rw (append_assoc (label l n m p) (numeral x ++ codes " ") rest, starts_append (label l n m p) after, drop-append_seam (label l n m p) after)
    (number_read x rest h)

-- The label of a place is the same for those who are named so far.
front_named : (xs : List ℕ) (k i : ℕ) → i < k → get_or (take k xs) i 0 ≡ get_or xs i 0
front_named [] zero i h = refl
front_named [] (suc k) i h = refl
front_named (x ∷ xs) zero i h = absurd (omega arith)
front_named (x ∷ xs) (suc k) zero h = refl
front_named (x ∷ xs) (suc k) (suc i) h = front_named xs k i (omega arith)

head_label : (l : Layout) (n m n' m' p : ℕ) → p < 3 → label l n m p ≡ label l n' m' p
head_label l n m n' m' p h = rw (lt-ltb p 3 h)

label_named : (l : Layout) (xs : List ℕ) (k : ℕ) →
    label l (growers_in (take k xs)) (pilots_in (take k xs)) k ≡ label l (growers_in xs) (pilots_in xs) k
label_named l xs k = ⊎_elim
    (λ h. head_label l (growers_in (take k xs)) (pilots_in (take k xs)) (growers_in xs) (pilots_in xs) k h)
    (λ h. rw (front_named xs k 1 (omega arith), front_named xs k 2 (omega arith)))
    (lt_or_le k 3)

further_some : (k : ℕ) (l : Layout) (xs s : List ℕ) → 0 < length s →
    entries_from (suc k) l xs s
    ≡ further s (entry_read l (growers_in xs) (pilots_in xs) (length xs) s) (λ x rest. entries_from k l (xs ++ (x ∷ [])) rest)
further_some k l xs [] h = absurd (omega arith)
further_some k l xs (b ∷ s) h = entries_more k l xs b s

module _ (l : Layout) (xs : List ℕ) (small : (i : ℕ) → get_or xs i 0 < 65536) where
  -- The numbers of the first k entries, and then what follows them.
  entry_on : (k fuel : ℕ) (rest : List ℕ) → k < length xs →
      entries_from (suc fuel) l (take k xs) (tight_at l xs k ++ rest) ≡ entries_from fuel l (take (suc k) xs) rest
  entry_on k fuel rest h =
      let x = get_or xs k 0 in
      let number = numeral x ++ codes " " in
      let before = label l (growers_in xs) (pilots_in xs) k in
      let some : 0 < length ((before ++ number) ++ rest) =
      omega (arith, length-append (before ++ number) rest, length-append before number, length-append (numeral x) (codes " ")) in
      further_some fuel l (take k xs) ((before ++ number) ++ rest) some
      ∙ rw (
        length-take-le k xs (omega arith),
        ← label_named l xs k,
        entry_back l (growers_in (take k xs)) (pilots_in (take k xs)) k x rest (small k),
        take-suc xs k 0 h,
      )

  entries_on : (k fuel : ℕ) (rest : List ℕ) → k ≤ length xs →
      entries_from (k + fuel) l [] (tight_to l xs k ++ rest) ≡ entries_from fuel l (take k xs) rest
  unfolding tight_to
  entries_on zero fuel rest h = let e : 0 + fuel ≡ fuel = omega arith in rw e
  entries_on (suc k) fuel rest h =
      let e : suc k + fuel ≡ k + suc fuel = omega arith in
      rw (e, append_assoc (tight_to l xs k) (tight_at l xs k) rest)
      (entries_on k (suc fuel) (tight_at l xs k ++ rest) (omega arith) ∙ entry_on k fuel rest (omega arith))

  entries_all : (f : ℕ) → entries_from (length xs + suc f) l [] (tight_to l xs (length xs)) ≡ Whole xs
  entries_all f =
      let k = length xs in
      let last : entries_from (suc f) l (take k xs) [] ≡ Whole xs = rw (take_all k xs (omega arith)) (entries_none f l xs) in
      ap (λ (s : List ℕ). entries_from (k + suc f) l [] s) (sym (append-nil (tight_to l xs k))) ∙ entries_on k (suc f) [] (omega arith) ∙ last

  entries_back : length xs < most_numbers → entries_in l (tight_to l xs (length xs)) ≡ Whole xs
  entries_back h =
      let k = length xs in
      let e : most_numbers ≡ k + suc (most_numbers - suc k) = omega arith in
      ap (λ (fuel : ℕ). entries_from fuel l [] (tight_to l xs k)) e ∙ entries_all (most_numbers - suc k)

  -- the first word
  tight_first : (k : ℕ) → (rest : List ℕ) × (tight_to l xs (suc k) ≡ (kind_name l ++ codes " ") ++ rest)
  unfolding tight_to
  tight_first zero = (numeral (get_or xs 0 0) ++ codes " ", refl)
  tight_first (suc k) =
      let f = tight_first k in
      (f.0 ++ tight_at l xs (suc k), ap (λ (s : List ℕ). s ++ tight_at l xs (suc k)) f.1 ∙ append_assoc (kind_name l ++ codes " ") f.0 (tight_at l xs (suc k)))

  words_back : length xs < most_numbers → worded l (text_of l xs) ≡ DocumentIs l xs
  words_back h = rw (squeezed_text l xs, entries_back h)

-- How long the text of a document is.

short_pick : (most : ℕ) (t : Bool) (x y : List ℕ) → length x ≤ most → length y ≤ most → length (cond t x y) ≤ most
short_pick most true x y p q = p
short_pick most false x y p q = q

kind_short : (l : Layout) → length (kind_name l) ≤ 15
kind_short Ticket = omega arith
kind_short Settlement = omega arith

field_short : (l : Layout) (line : Line) (c : ℕ) → length (field_name l line c) ≤ 15
field_short l Head c = short_pick 15 (eqb c 0) _ _ (kind_short l) (short_pick 15 (eqb c 1) _ _ (omega arith) (omega arith))
field_short l (Grower i) c = omega arith
field_short l (Pilot j) c = omega arith
field_short Ticket (Pair i j) c =
    short_pick 15 (eqb c 0) _ _ (omega arith)
    (short_pick 15 (eqb c 1) _ _ (omega arith)
    (short_pick 15 (eqb c 2) _ _ (omega arith) (short_pick 15 (eqb c 3) _ _ (omega arith) (omega arith))))
field_short Settlement (Pair i j) c = short_pick 15 (eqb c 0) _ _ (omega arith) (short_pick 15 (eqb c 1) _ _ (omega arith) (omega arith))

-- whose number is small
abbrev Small : Line → Type 0
Small Head = ℕ
Small (Grower i) = i < 10000
Small (Pilot j) = j < 10000
Small (Pair i j) = (i < 10000) × (j < 10000)

lead_short : (line : Line) → Small line → length (lead (codes " ") line) ≤ 48
lead_short Head s = omega arith
lead_short (Grower i) s =
    omega (
      arith,
      length-append (codes "grower " ++ numeral i) (codes " "),
      length-append (codes "grower ") (numeral i),
      numeral_short 3 i (omega (arith, s)),
    )
lead_short (Pilot j) s =
    omega (
      arith,
      length-append (codes "pilot " ++ numeral j) (codes " "),
      length-append (codes "pilot ") (numeral j),
      numeral_short 3 j (omega (arith, s)),
    )
lead_short (Pair i j) s =
    let rest = numeral i ++ (codes " " ++ numeral j) in
    omega (
      arith,
      length-append (codes "pair " ++ rest) (codes " "),
      length-append (codes "pair ") rest,
      length-append (numeral i) (codes " " ++ numeral j),
      length-append (codes " ") (numeral j),
      numeral_short 3 i (omega (arith, s.0)),
      numeral_short 3 j (omega (arith, s.1)),
    )

small_pick : (t : Bool) (a b : Spot) → Small a.line → Small b.line → Small (cond t a b).line
small_pick true a b p q = p
small_pick false a b p q = q

spot_small : (l : Layout) (n m p : ℕ) → p < 10000 → Small (spot_of l n m p).line
spot_small l n m p h =
    let q = p - 3 in
    let r = q - hours_of l n m in
    let d = r / columns l in
    let small : d < 10000 = omega (arith, div-le_self r (columns l)) in
    small_pick (ltb p 3) _ _ 0
    (small_pick (ltb q (hours_of l n m)) _ _
    (small_pick (ltb q n) _ _ (omega arith) (omega arith))
    (omega (arith, small, div-le_self d m), omega (arith, small, mod-le d m)))

spot_short : (l : Layout) (s : Spot) → Small s.line → length (spot_label l s) ≤ 64
spot_short l s small =
    let first = opening s.column s.line in
    let field = field_name l s.line s.column in
    omega (
      arith,
      length-append first (field ++ codes " "),
      length-append field (codes " "),
      field_short l s.line s.column,
      short_pick 48 (eqb s.column 0) (lead (codes " ") s.line) [] (lead_short s.line small) (omega arith),
    )

entry_short : (l : Layout) (xs : List ℕ) (p : ℕ) → p < 10000 → get_or xs p 0 < 65536 → length (entry_at l xs p) ≤ entry_bytes
entry_short l xs p h b =
    let x = get_or xs p 0 in
    let before = label l (growers_in xs) (pilots_in xs) p in
    let end = separator (ends_line l xs p) in
    omega (
      arith,
      length-append before (numeral x ++ end),
      length-append (numeral x) end,
      spot_short l (spot_of l (growers_in xs) (pilots_in xs) p) (spot_small l (growers_in xs) (pilots_in xs) p h),
      numeral_short 4 x (omega (arith, b)),
      short_pick 1 (ends_line l xs p) (10 ∷ []) (32 ∷ []) (omega arith) (omega arith),
    )

text_short : (l : Layout) (xs : List ℕ) → ((i : ℕ) → get_or xs i 0 < 65536) → (k : ℕ) → k ≤ longest → length (text_to l xs k) ≤ k * entry_bytes
unfolding text_to
text_short l xs small zero h = omega arith
text_short l xs small (suc k) h =
    omega (
      arith,
      length-append (text_to l xs k) (entry_at l xs k),
      entry_short l xs k (omega arith) (small k),
      text_short l xs small k (omega arith),
    )

-- The text of a list gives the list again.
pub text_read : (l : Layout) (xs : List ℕ) → 0 < length xs → length xs ≤ longest → ((i : ℕ) → get_or xs i 0 < 65536) →
    document_in (text_of l xs) ≡ DocumentIs l xs
text_read l [] some few small = absurd (omega arith)
text_read l (x ∷ xs) some few small = go l
  where
    short : (l : Layout) → length (text_of l (x ∷ xs)) ≤ most_text
    short l = omega (arith, text_short l (x ∷ xs) small (suc (length xs)) few)

    tight : (l : Layout) → squeezed (text_of l (x ∷ xs)) ≡ (kind_name l ++ codes " ") ++ (tight_first l (x ∷ xs) small (length xs)).0
    tight l = squeezed_text l (x ∷ xs) ∙ (tight_first l (x ∷ xs) small (length xs)).1

    go : (l : Layout) → document_in (text_of l (x ∷ xs)) ≡ DocumentIs l (x ∷ xs)
    go Ticket = by_ticket (text_of Ticket (x ∷ xs)) (short Ticket) _ (sym (tight Ticket)) refl ∙ words_back Ticket (x ∷ xs) small (omega arith)
    go Settlement =
        by_settlement (text_of Settlement (x ∷ xs)) (short Settlement) _ (sym (tight Settlement)) refl refl
        ∙ words_back Settlement (x ∷ xs) small (omega arith)

-- The numbers of a document are small.
good_small : (p : checks.Document) (s : State) (xs : List ℕ) → Good (form_of p) s xs → (i : ℕ) → get_or xs i 0 < 65536
good_small p s [] g i = lit< tt
good_small p s (x ∷ xs) g zero = omega (arith, number_small p s x g.0)
good_small p s (x ∷ xs) g (suc i) = good_small p (after_in p s x) xs g.1 i

-- A ticket that was unpacked, and written as text, is read again.
pub ticket_read : (s xs : List ℕ) → unpacked s ≡ Ok xs → document_in (document_text Ticket xs) ≡ DocumentIs Ticket xs
ticket_read s xs e =
    let h = unpacked_shape s xs e in
    let a = (form_accepts (form_of checks.Document.Ticket) bytes s xs e).0 in
    rw (take_all longest xs h.few)
    (text_read Ticket xs (omega (arith, h.count)) h.few (good_small checks.Document.Ticket start xs a.good))

-- So is a settlement.
pub settlement_read_lem : (n m : ℕ) (s xs : List ℕ) → n ≤ 16 → m ≤ 16 → settlement_read n m s ≡ Ok xs →
    document_in (document_text Settlement xs) ≡ DocumentIs Settlement xs
settlement_read_lem n m s xs hn hm e =
    let h = settlement_shape n m s xs e in
    let few : length xs ≤ longest = omega (arith, h.count, mul-le-mul hn hm) in
    rw (take_all longest xs few) (text_read Settlement xs (omega (arith, h.count)) few (λ i. omega (arith, h.small i)))
