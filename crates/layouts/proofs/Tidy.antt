-- The text of a document squeezed: the labels stay as they are, and a blank follows each number.
-- Assumes nothing.
use mathlib.Core.Path.{◌≡◌, refl, sym, ap, ◌∙◌}
use mathlib.Core.Logic.{⊎_elim}
use mathlib.Core.Bool.{Bool, true, false, cond, ◌&&◌}
use mathlib.Core.List.{List, [], ◌∷◌, ◌++◌, append_assoc, append-nil}
use Prim.Native.Nat.{ℕ, zero, suc, ◌+◌, ◌/◌, ◌%◌, ◌≤◌, ◌<◌}
use native.Mathlib.Nat.{eq-zero-or-pos}
use native.Mathlib.Omega.{arith}
use borrow.Author.Tests.{ne_eqb, lt-leb}
use lib.Dec.{eqb, leb}
use lib.ListN.{length, get_or, length-append}
use Rattle.ascii.specs.Decimal.{digit}
use Rattle.ascii.specs.Numeral.{numeral}
use Rattle.ascii.specs.Texts.{codes}
use Rattle.ascii.proofs.NumeralLaws.{one-digit, more_digits}
use Rattle.labels.specs.declared.places.Layout.{Layout}
use Rattle.labels.specs.declared.places.Layout.TheVariants.{Ticket, Settlement}
use Rattle.labels.specs.declared.places.Line.{Line}
use Rattle.labels.specs.declared.places.Line.TheVariants.{Head, Grower, Pilot, Pair}
use Rattle.labels.specs.declared.places.Spot.{Spot}
use Rattle.labels.specs.Spots.{spot_of}
use Rattle.labels.specs.Words.{lead, kind_name, term_name, agreed_name, field_name, opening, spot_label, label}
use Rattle.layouts.specs.declared.squeezing.Mode.TheVariants.{Gap, Word}
use Rattle.layouts.specs.Text.{separator, growers_in, pilots_in, ends_line, entry_at, text_to, text_of}
use Rattle.layouts.specs.Squeezed.{outside, squeeze_from, squeezed}

-- Bytes of one word.
abbrev Parts : List ℕ → Type 0
Parts [] = ℕ
Parts (b ∷ s) = (outside b ≡ Word) × Parts s

parts_append : (a b : List ℕ) → Parts a → Parts b → Parts (a ++ b)
parts_append [] b p q = q
parts_append (x ∷ a) b p q = (p.0, parts_append a b p.1 q)

and-false : (a : Bool) → (a && false) ≡ false
and-false true = refl
and-false false = refl

digit-part : (d : ℕ) → d < 10 → outside (digit d) ≡ Word
digit-part d h =
    rw (
      ne_eqb (48 + d) 32 (λ e. omega arith),
      lt-leb (48 + d) 13 (omega arith),
      and-false (leb 9 (48 + d)),
      ne_eqb (48 + d) 35 (λ e. omega arith),
    )

-- a number is one word
numeral_parts : (k n : ℕ) → n ≤ k → Parts (numeral n) × (0 < length (numeral n))
numeral_parts zero n h = rw (one-digit n (omega arith)) ((digit-part n (omega arith), 0), omega arith)
numeral_parts (suc k) n h = ⊎_elim
    (λ z. rw (one-digit n (omega arith)) ((digit-part n (omega arith), 0), omega arith))
    (λ z.
    let p = numeral_parts k (n / 10) (omega arith) in
    let d = digit (n % 10) ∷ [] in
    rw (more_digits n (omega arith)) (
      parts_append (numeral (n / 10)) d p.0 (digit-part (n % 10) (omega arith), 0),
      omega (arith, length-append (numeral (n / 10)) d),
    ))
    (eq-zero-or-pos (n / 10))

word_stays : (s rest : List ℕ) → Parts s → squeeze_from Word (s ++ rest) ≡ s ++ squeeze_from Word rest
unfolding squeeze_from
word_stays [] rest p = refl
word_stays (b ∷ s) rest p = rw p.0 (ap (λ (r : List ℕ). b ∷ r) (word_stays s rest p.1))

-- a word and what follows it, which becomes a blank
word_then : (s : List ℕ) (end : ℕ) (rest : List ℕ) → Parts s → 0 < length s → outside end ≡ Gap →
    squeeze_from Gap (s ++ (end ∷ rest)) ≡ s ++ (32 ∷ squeeze_from Gap rest)
unfolding squeeze_from
word_then [] end rest p h e = absurd (omega arith)
word_then (b ∷ s) end rest p h e = rw p.0 (ap (λ (r : List ℕ). b ∷ r) (word_stays s (end ∷ rest) p.1 ∙ rw e))

-- Text that is squeezed already.
abbrev Tidy : List ℕ → Type 0
Tidy s = (rest : List ℕ) → squeeze_from Gap (s ++ rest) ≡ s ++ squeeze_from Gap rest

tidy_append : (a b : List ℕ) → Tidy a → Tidy b → Tidy (a ++ b)
tidy_append a b p q rest =
    ap (squeeze_from Gap) (append_assoc a b rest)
    ∙ p (b ++ rest)
    ∙ ap (λ (r : List ℕ). a ++ r) (q rest)
    ∙ sym (append_assoc a b (squeeze_from Gap rest))

tidy_number : (n : ℕ) → Tidy (numeral n ++ codes " ")
tidy_number n rest =
    let p = numeral_parts n n (omega arith) in
    ap (squeeze_from Gap) (append_assoc (numeral n) (codes " ") rest)
    ∙ word_then (numeral n) 32 rest p.0 p.1 refl
    ∙ sym (append_assoc (numeral n) (codes " ") (squeeze_from Gap rest))

tidy_pick : (t : Bool) (x y e : List ℕ) → Tidy (x ++ e) → Tidy (y ++ e) → Tidy (cond t x y ++ e)
tidy_pick true x y e p q = p
tidy_pick false x y e p q = q

kind_tidy : (l : Layout) → Tidy (kind_name l ++ codes " ")
unfolding squeeze_from
kind_tidy Ticket rest = refl
kind_tidy Settlement rest = refl

growers_tidy : Tidy (codes "growers" ++ codes " ")
unfolding squeeze_from
growers_tidy rest = refl

pilots_tidy : Tidy (codes "pilots" ++ codes " ")
unfolding squeeze_from
pilots_tidy rest = refl

hours_tidy : Tidy (codes "hours" ++ codes " ")
unfolding squeeze_from
hours_tidy rest = refl

term_tidy : (c : ℕ) → Tidy (term_name c ++ codes " ")
unfolding squeeze_from
term_tidy c =
    tidy_pick (eqb c 0) _ _ (codes " ") (λ rest. refl)
    (tidy_pick (eqb c 1) _ _ (codes " ") (λ rest. refl)
    (tidy_pick (eqb c 2) _ _ (codes " ") (λ rest. refl) (tidy_pick (eqb c 3) _ _ (codes " ") (λ rest. refl) (λ rest. refl))))

agreed_tidy : (c : ℕ) → Tidy (agreed_name c ++ codes " ")
unfolding squeeze_from
agreed_tidy c =
    tidy_pick (eqb c 0) _ _ (codes " ") (λ rest. refl) (tidy_pick (eqb c 1) _ _ (codes " ") (λ rest. refl) (λ rest. refl))

field_tidy : (l : Layout) (line : Line) (c : ℕ) → Tidy (field_name l line c ++ codes " ")
field_tidy l Head c = tidy_pick (eqb c 0) _ _ (codes " ") (kind_tidy l) (tidy_pick (eqb c 1) _ _ (codes " ") growers_tidy pilots_tidy)
field_tidy l (Grower i) c = hours_tidy
field_tidy l (Pilot j) c = hours_tidy
field_tidy Ticket (Pair i j) c = term_tidy c
field_tidy Settlement (Pair i j) c = agreed_tidy c

grower_tidy : Tidy (codes "grower ")
unfolding squeeze_from
grower_tidy rest = refl

pilot_tidy : Tidy (codes "pilot ")
unfolding squeeze_from
pilot_tidy rest = refl

pair_tidy : Tidy (codes "pair ")
unfolding squeeze_from
pair_tidy rest = refl

tidy_same : (a b : List ℕ) → a ≡ b → Tidy a → Tidy b
tidy_same a b e p = rw (← e) p

lead_tidy : (line : Line) → Tidy (lead (codes " ") line)
lead_tidy Head = λ rest. refl
lead_tidy (Grower i) =
    tidy_same (codes "grower " ++ (numeral i ++ codes " ")) _ (sym (append_assoc (codes "grower ") (numeral i) (codes " ")))
    (tidy_append (codes "grower ") (numeral i ++ codes " ") grower_tidy (tidy_number i))
lead_tidy (Pilot j) =
    tidy_same (codes "pilot " ++ (numeral j ++ codes " ")) _ (sym (append_assoc (codes "pilot ") (numeral j) (codes " ")))
    (tidy_append (codes "pilot ") (numeral j ++ codes " ") pilot_tidy (tidy_number j))
lead_tidy (Pair i j) =
    let first = numeral i ++ codes " " in
    let last = numeral j ++ codes " " in
    let middle = numeral i ++ (codes " " ++ numeral j) in
    let same : first ++ last ≡ middle ++ codes " " =
    append_assoc (numeral i) (codes " ") last ∙ sym (append_assoc (numeral i) (codes " " ++ numeral j) (codes " ")) in
    tidy_same (codes "pair " ++ (first ++ last)) _
    (ap (λ (r : List ℕ). codes "pair " ++ r) same ∙ sym (append_assoc (codes "pair ") middle (codes " ")))
    (tidy_append (codes "pair ") (first ++ last) pair_tidy (tidy_append first last (tidy_number i) (tidy_number j)))

spot_tidy : (l : Layout) (s : Spot) → Tidy (spot_label l s)
spot_tidy l s =
    tidy_append (opening s.column s.line) (field_name l s.line s.column ++ codes " ")
    (go (eqb s.column 0)) (field_tidy l s.line s.column)
  where
    go : (t : Bool) → Tidy (cond t (lead (codes " ") s.line) [])
    go true = lead_tidy s.line
    go false = λ rest. refl

pub label_tidy : (l : Layout) (n m p : ℕ) → Tidy (label l n m p)
label_tidy l n m p = spot_tidy l (spot_of l n m p)

-- The squeezed text of the first k numbers.
abbrev pub tight_at : Layout → List ℕ → ℕ → List ℕ
tight_at l xs p = label l (growers_in xs) (pilots_in xs) p ++ (numeral (get_or xs p 0) ++ codes " ")

unfoldable pub tight_to : Layout → List ℕ → ℕ → List ℕ
tight_to l xs zero = []
tight_to l xs (suc k) = tight_to l xs k ++ tight_at l xs k

module _ (l : Layout) (xs : List ℕ) where
  number_then_lem : (x : ℕ) (ends : Bool) (rest : List ℕ) →
      squeeze_from Gap ((numeral x ++ separator ends) ++ rest) ≡ (numeral x ++ codes " ") ++ squeeze_from Gap rest
  number_then_lem x ends rest =
      let p = numeral_parts x x (omega arith) in
      ap (squeeze_from Gap) (append_assoc (numeral x) (separator ends) rest)
      ∙ go ends p.0 p.1
      ∙ sym (append_assoc (numeral x) (codes " ") (squeeze_from Gap rest))
    where
      go : (t : Bool) → Parts (numeral x) → 0 < length (numeral x) →
          squeeze_from Gap (numeral x ++ (separator t ++ rest)) ≡ numeral x ++ (32 ∷ squeeze_from Gap rest)
      go true p h = word_then (numeral x) 10 rest p h refl
      go false p h = word_then (numeral x) 32 rest p h refl

  entry_squeezed : (p : ℕ) (rest : List ℕ) → squeeze_from Gap (entry_at l xs p ++ rest) ≡ tight_at l xs p ++ squeeze_from Gap rest
  entry_squeezed p rest =
      let before = label l (growers_in xs) (pilots_in xs) p in
      let x = get_or xs p 0 in
      let ends = ends_line l xs p in
      ap (squeeze_from Gap) (append_assoc before (numeral x ++ separator ends) rest)
      ∙ label_tidy l (growers_in xs) (pilots_in xs) p ((numeral x ++ separator ends) ++ rest)
      ∙ ap (λ (r : List ℕ). before ++ r) (number_then_lem x ends rest)
      ∙ sym (append_assoc before (numeral x ++ codes " ") (squeeze_from Gap rest))

  text_squeezed : (k : ℕ) (rest : List ℕ) → squeeze_from Gap (text_to l xs k ++ rest) ≡ tight_to l xs k ++ squeeze_from Gap rest
  unfolding text_to tight_to
  text_squeezed zero rest = refl
  text_squeezed (suc k) rest =
      ap (squeeze_from Gap) (append_assoc (text_to l xs k) (entry_at l xs k) rest)
      ∙ text_squeezed k (entry_at l xs k ++ rest)
      ∙ ap (λ (r : List ℕ). tight_to l xs k ++ r) (entry_squeezed k rest)
      ∙ sym (append_assoc (tight_to l xs k) (tight_at l xs k) (squeeze_from Gap rest))

  pub squeezed_text : squeezed (text_of l xs) ≡ tight_to l xs (length xs)
  unfolding squeeze_from
  squeezed_text =
      ap squeezed (sym (append-nil (text_to l xs (length xs)))) ∙ text_squeezed (length xs) [] ∙ append-nil (tight_to l xs (length xs))
