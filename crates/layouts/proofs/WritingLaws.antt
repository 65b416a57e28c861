-- The text grows number by number, and is then copied to the lent buffer.
-- Assumes nothing.
use mathlib.Core.Path.{◌≡◌, sym, ap, ◌∙◌}
use mathlib.Core.List.{List}
use Prim.Native.Nat.{ℕ, ◌+◌, ◌-◌, ◌*◌, ◌≤◌, ◌<◌}
use native.Mathlib.Numerals.{add-one}
use native.Mathlib.Omega.{arith}
use borrow.Author.Tests.{le-leb}
use lib.ListN.{length, take}
use Rattle.ascii.specs.Writing.{Wrote}
use Rattle.ascii.proofs.PageWriting.{wrote_nothing, wrote_then, wrote_part}
use Rattle.pages.specs.Put.{Put}
use Rattle.pages.proofs.PutLaws.{put_wrote}
use Rattle.std.specs.Prelude.{Ok, Err}
use Rattle.checks.specs.declared.refusals.Refusal.{Refusal}
use Rattle.reader.specs.Answer.{Tells, kept}
use Rattle.reader.proofs.Facts.{reply-with_room, reply_without_room, kept_without_room}
use Rattle.reader.proofs.Telling.{tells}
use Rattle.labels.specs.declared.places.Layout.{Layout}
use Rattle.layouts.specs.Text.{longest, entry_bytes, page_bytes, entry_at, text_to}

-- After k numbers their text is written, and there is room for those that are left.
pub record Filling (page page' : List ℕ) (l : Layout) (xs : List ℕ) (at k : ℕ) : Type 0 where
  pub wrote : Wrote page page' 0 at (text_to l xs k)
  pub short : at ≤ k * entry_bytes

pub filling_starts : (page : List ℕ) (l : Layout) (xs : List ℕ) → Filling page page l xs 0 0
unfolding text_to
filling_starts page l xs = record { wrote = wrote_nothing page 0; short = omega arith }

module _ {page page' : List ℕ} {l : Layout} {xs : List ℕ} {at k : ℕ} (f : Filling page page' l xs at k) where
  pub filling_room : k < length xs → length xs ≤ longest → at + entry_bytes ≤ page_bytes
  filling_room h m = omega (arith, f.short)

  pub filling_turns : {page'' : List ℕ} {next : ℕ} → Wrote page' page'' at next (entry_at l xs k) × (next ≤ at + entry_bytes) →
      Filling page page'' l xs next (k + 1)
  unfolding text_to
  filling_turns w = rw (add-one k) record { wrote = wrote_then f.wrote w.0; short = omega (arith, w.1, f.short) }

  pub filling_ends : length xs ≡ k → length xs ≤ longest → Wrote page page' 0 at (text_to l xs (length xs)) × (at ≤ page_bytes)
  filling_ends e m = (rw e f.wrote, omega (arith, f.short))

-- A text that was written on a page of our own.
module _ (text : List ℕ) {blank page : List ℕ} {end : ℕ} (w : Wrote blank page 0 end text) (fits : end ≤ length blank) where
  pub front_is : take end page ≡ text
  front_is = let e : end - 0 ≡ end = omega arith in rw e at (wrote_part w fits)

  module _ (lent : List ℕ) where
    pub told_short : length lent < end → Tells (Err Refusal.NoRoom) (length lent) (Ok text) × (lent ≡ kept lent (Ok text))
    told_short h = (
      tells _ (length lent) (Ok text) (sym (reply_without_room (length lent) text (omega (arith, w.ends)))),
      sym (kept_without_room lent text (omega (arith, w.ends))),
    )

    pub told_copied : {after : List ℕ} {place : ℕ} → end ≤ length lent → Put lent after 0 place (take end page) →
        Tells (Ok end) (length lent) (Ok text) × (after ≡ kept lent (Ok text))
    told_copied {after} {place} h p =
        let long : length text ≤ length lent = omega (arith, w.ends) in
        let e : end ≡ length text = omega (arith, w.ends) in
        let c = put_wrote (rw front_is at p) (omega arith) in (
          tells _ (length lent) (Ok text) (ap (λ (k : ℕ). Ok k) e ∙ sym (reply-with_room (length lent) text long)),
          rw (le-leb (length text) (length lent) long) c.stored,
        )
