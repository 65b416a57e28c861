-- Bytes written into a line, what is lent of it, and how long its parts are.
-- Assumes nothing.
use mathlib.Core.Path.{◌≡◌, refl, sym, ap}
use Rattle.std.specs.Prelude.{Result, Ok, Err}
use mathlib.Core.List.{List, [], ◌∷◌, ◌++◌}
use Prim.Native.Nat.{ℕ, ◌+◌, ◌≤◌, ◌<◌}
use native.Mathlib.Omega.{arith}
use borrow.Author.Tests.{le-leb}
use lib.ListN.{length, take, length-append}
use lib.Seq.{take_at}
use Rattle.checks.specs.declared.refusals.Refusal.{Refusal}
use Rattle.reader.specs.Answer.{Tells, kept}
use Rattle.reader.proofs.Facts.{reply-with_room, reply_without_room, kept_without_room, written_front}
use Rattle.reader.proofs.Telling.{tells}
use Rattle.verdicts.specs.declared.Values.{Values}
use Rattle.ascii.specs.Decimal.{decimal}
use Rattle.ascii.specs.Writing.{Wrote}
use Rattle.ascii.proofs.PageWriting.{wrote_length}
use Rattle.ascii.proofs.Spelling.{decimal_short}
use Rattle.market.specs.declared.Deal.{Deal}
use Rattle.market.specs.declared.Deal.TheVariants.{Tariff, Free}
use Rattle.texts.specs.MarkLine.{field, deal_word, head_of}

-- what is left of the room after some bytes
pub room_after : {l l₁ : List ℕ} {from at : ℕ} {x : List ℕ} (most room : ℕ) → Wrote l l₁ from at x → length x ≤ most →
    from + (most + room) ≤ length l → at + room ≤ length l₁
room_after most room w short fits = omega (arith, wrote_length w, w.ends)

-- A text x that was written at the front of a page with room for it, and lent from there.
module _ {blank page : List ℕ} {end : ℕ} (x : List ℕ) (w : Wrote blank page 0 end x) (fits : length x ≤ length blank) where
  pub front_is : take end page ≡ x
  front_is =
      let e : end ≡ length x = omega (arith, w.ends) in
      rw (w.stored, written_front blank x fits, e) (take_at x _ (length x) refl)

  pub front_long : end ≡ length (take end page)
  front_long = omega (arith, w.ends, ap length front_is)

  pub front_told : (r : Result ℕ Refusal) (lent after : List ℕ) →
      Tells r (length lent) (Ok (take end page)) × (after ≡ kept lent (Ok (take end page))) →
      Tells r (length lent) (Ok x) × (after ≡ kept lent (Ok x))
  front_told r lent after h = rw front_is at h

-- Bytes lent: none where there is no room for all.
module _ (bytes lent : List ℕ) where
  pub lend_short : length lent < length bytes →
      Tells (Err Refusal.NoRoom) (length lent) (Ok bytes) × (lent ≡ kept lent (Ok bytes))
  lend_short h = (
    tells _ (length lent) (Ok bytes) (sym (reply_without_room (length lent) bytes h)),
    sym (kept_without_room lent bytes h),
  )

  pub lend_copied : (after : List ℕ) (place : ℕ) → length bytes ≤ length lent → Wrote lent after 0 place bytes →
      Tells (Ok (length bytes)) (length lent) (Ok bytes) × (after ≡ kept lent (Ok bytes))
  lend_copied after place h w = (
    tells _ (length lent) (Ok bytes) (sym (reply-with_room (length lent) bytes h)),
    rw (le-leb (length bytes) (length lent) h) w.stored,
  )

pub field_short : (n : ℕ) → length (field n) ≤ 4
field_short n = omega (arith, length-append (decimal n) (32 ∷ []), decimal_short n)

pub deal_short : (d : Deal) → length (deal_word d) ≤ 7
deal_short Tariff = omega arith
deal_short Free = omega arith

pub head_short : (v : Values) → length (head_of v) ≤ 17
head_short v =
    omega (
      arith,
      length-append (field v.verdict) (field v.grower ++ field v.pilot),
      length-append (field v.grower) (field v.pilot),
      field_short v.verdict,
      field_short v.grower,
      field_short v.pilot,
    )
