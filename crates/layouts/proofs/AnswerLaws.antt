-- From what was read to the answer and the lent list.
-- Assumes nothing.
use mathlib.Core.Path.{◌≡◌, refl, ap, ◌∙◌}
use mathlib.Core.Bool.{Bool, true, false, cond}
use mathlib.Core.List.{List}
use Prim.Native.Nat.{ℕ, ◌-◌, ◌≤◌, ◌<◌}
use native.Mathlib.Omega.{arith}
use borrow.Author.Tests.{le-leb, lt-leb, leb-true, lt-ltb, le-ltb}
use lib.Dec.{leb}
use lib.ListN.{length, take}
use lib.Seq.{sets, take_at}
use Rattle.grid.proofs.Cases.{never}
use Rattle.reader.proofs.Facts.{written_front}
use Rattle.std.specs.Prelude.{Result, Ok, Err}
use Rattle.lists.specs.declared.text.ListError.{ListError}
use Rattle.lists.specs.NumberText as plain
use Rattle.lists.specs.Listing.{list_reply, list_kept}
use Rattle.ascii.specs.Texts.{codes}
use Rattle.labels.specs.declared.places.Layout.{Layout}
use Rattle.labels.specs.declared.places.Layout.TheVariants.{Ticket, Settlement}
use Rattle.layouts.specs.declared.reading.TextRead.{TextRead}
use Rattle.layouts.specs.declared.reading.TextError.{TextError}
use Rattle.layouts.specs.Squeezed.{most_text, squeezed, line_at}
use Rattle.layouts.specs.Reading.{Entries, Stopped, Whole, Document, TooMuch, starts_with, worded_as, worded, kind_of, plain_as, document_in}
use Rattle.layouts.specs.Answer.{read_as, read_reply, read_kept, WalkedAs}

-- An answer, and the lent list after it, are those of a document.
abbrev pub Answers : Document → List ℕ → List ℕ → Result TextRead TextError → Type 0
Answers d lent after r = (r ≡ read_reply (length lent) d) × (after ≡ read_kept lent d)

module _ (l : Layout) (text lent : List ℕ) {own : List ℕ} {walked : Result ℕ ℕ} where
  pub worded_wrong : (e : Entries) → WalkedAs (length (squeezed text)) e own walked → (at : ℕ) → walked ≡ Err at →
      Answers (worded_as l text e) lent lent (Err (TextError.Wrong (line_at text at)))
  worded_wrong (Stopped rest) w at f =
      let a = w.answer in
      let e : at ≡ length (squeezed text) - length rest = cc in (ap (λ (k : ℕ). Err (TextError.Wrong (line_at text k))) e, refl)
  worded_wrong (Whole xs) w at f = let a = w.answer in never cc

  pub worded_short : (e : Entries) → WalkedAs (length (squeezed text)) e own walked → (count : ℕ) → walked ≡ Ok count →
      length lent < count → Answers (worded_as l text e) lent lent (Err TextError.NoRoom)
  worded_short (Stopped rest) w count f h = let a = w.answer in never cc
  worded_short (Whole xs) w count f h =
      let a = w.answer in
      let e : count ≡ length xs = cc in rw (lt-leb (length xs) (length lent) (omega arith)) (refl, refl)

  pub worded_done : (e : Entries) → WalkedAs (length (squeezed text)) e own walked → (count : ℕ) → walked ≡ Ok count →
      count ≤ length lent → (after : List ℕ) → after ≡ sets lent 0 (take count own) →
      Answers (worded_as l text e) lent after (Ok (read_as l count))
  worded_done (Stopped rest) w count f h after g = let a = w.answer in never cc
  worded_done (Whole xs) w count f h after g =
      let a = w.answer in
      let e : count ≡ length xs = cc in
      let s = w.stored xs refl in
      rw (le-leb (length xs) (length lent) (omega arith)) (ap (λ (k : ℕ). Ok (read_as l k)) e, g ∙ rw (e, s))

module _ (lent after : List ℕ) {listed : Result ℕ ListError} where
  pub plain_wrong : (p : plain.Listing) → listed ≡ list_reply (length lent) p → after ≡ list_kept lent p → (line : ℕ) →
      listed ≡ Err (ListError.Wrong line) → Answers (plain_as p) lent after (Err (TextError.Wrong line))
  plain_wrong (plain.WrongLine n) r k line f = let e : line ≡ n = cc in (ap (λ (k : ℕ). Err (TextError.Wrong k)) e, k)
  plain_wrong (plain.Listed xs) r k line f = go (leb (length xs) (length lent)) r
    where
      go : (b : Bool) → listed ≡ cond b (Ok (length xs)) (Err ListError.NoRoom) → Answers (plain_as (plain.Listed xs)) lent after (Err (TextError.Wrong line))
      go true r = never cc
      go false r = never cc

  pub plain_short : (p : plain.Listing) → listed ≡ list_reply (length lent) p → after ≡ list_kept lent p → listed ≡ Err ListError.NoRoom →
      Answers (plain_as p) lent after (Err TextError.NoRoom)
  plain_short (plain.WrongLine n) r k f = never cc
  plain_short (plain.Listed xs) r k f = go (leb (length xs) (length lent)) r k
    where
      go : (b : Bool) → listed ≡ cond b (Ok (length xs)) (Err ListError.NoRoom) → after ≡ cond b (sets lent 0 xs) lent →
          ((Err TextError.NoRoom) ≡ cond b (Ok (read_as (kind_of xs) (length xs))) (Err TextError.NoRoom)) × (after ≡ cond b (sets lent 0 xs) lent)
      go true r k = never cc
      go false r k = (refl, k)

  pub plain_done : (p : plain.Listing) → listed ≡ list_reply (length lent) p → after ≡ list_kept lent p → (count : ℕ) →
      listed ≡ Ok count → (l : Layout) → l ≡ kind_of (take count after) → Answers (plain_as p) lent after (Ok (read_as l count))
  plain_done (plain.WrongLine n) r k count f l g = never cc
  plain_done (plain.Listed xs) r k count f l g = go (leb (length xs) (length lent)) refl r k
    where
      front : length xs ≤ length lent → take (length xs) (sets lent 0 xs) ≡ xs
      front h = rw (written_front lent xs h) (take_at xs _ (length xs) refl)

      go : (b : Bool) → leb (length xs) (length lent) ≡ b → listed ≡ cond b (Ok (length xs)) (Err ListError.NoRoom) →
          after ≡ cond b (sets lent 0 xs) lent →
          (Ok (read_as l count) ≡ cond b (Ok (read_as (kind_of xs) (length xs))) (Err TextError.NoRoom)) × (after ≡ cond b (sets lent 0 xs) lent)
      go true t r k =
          let e : count ≡ length xs = cc in
          let kind : l ≡ kind_of xs = g ∙ rw (e, k, front (leb-true (length xs) (length lent) t)) in (rw (kind, e), k)
      go false t r k = never cc

-- A text, by its first word.
pub too_much : (text : List ℕ) → most_text < length text → document_in text ≡ TooMuch
too_much text h = rw (lt-ltb most_text (length text) h)

module _ (text : List ℕ) (short : length text ≤ most_text) (tight : List ℕ) (is : tight ≡ squeezed text) where
  pub by_ticket : starts_with (codes "ticket ") tight ≡ true → document_in text ≡ worded Ticket text
  by_ticket e = rw (le-ltb most_text (length text) short, ← is, e)

  module _ (no-ticket : starts_with (codes "ticket ") tight ≡ false) where
    pub by_settlement : starts_with (codes "settlement ") tight ≡ true → document_in text ≡ worded Settlement text
    by_settlement e = rw (le-ltb most_text (length text) short, ← is, no-ticket, e)

    pub by_number : starts_with (codes "settlement ") tight ≡ false → document_in text ≡ plain_as (plain.numbers_of text)
    by_number e = rw (le-ltb most_text (length text) short, ← is, no-ticket, e)
