-- What C asks the text of: every text is short, so that the number that C gets tells the reply, and a number of more than a byte has the
-- text of 0.
-- Assumes nothing.
use Rattle.std.specs.Prelude.{Ok}
use mathlib.Core.Path.{◌≡◌, refl, sym, ap}
use mathlib.Core.Bool.{cond}
use mathlib.Core.Logic.{⊎_elim}
use Prim.Native.Nat.{ℕ, zero, suc, ◌≤◌}
use native.Mathlib.Omega.{arith}
use borrow.Author.Tests.{lt-ltb, le-ltb}
use lib.Dec.{ltb}
use lib.ListN.{length, get_or-eq_default}
use Rattle.grid.proofs.Cases.{lt_or_le}
use Rattle.reader.specs.Answer.{reply}
use Rattle.texts.specs.declared.Meaning.{Meaning}
use Rattle.texts.specs.Meanings.{refusal_texts, verdict_texts, telling_of}
use Rattle.texts.proofs.MeaningLaws.{text_fits}
use Rattle.exchange_c.specs.Replies.{reply_number, reply_of, Small}
use Rattle.exchange_c.specs.Texts.{meaning_of}
use Rattle.exchange_c.proofs.ReplyLaws.{number_tells, reply_small}

pub other_meaning : (what : ℕ) → (what ≡ 0 → ⊥) → Meaning.Verdict ≡ meaning_of what
other_meaning zero h = absurd (h refl)
other_meaning (suc what) h = refl

untold : (what : Meaning) (number : ℕ) → 256 ≤ number → telling_of what number ≡ telling_of what 0
untold Meaning.Refusal number h = rw (get_or-eq_default refusal_texts "no such refusal" {n = number} (omega arith))
untold Meaning.Verdict number h = rw (get_or-eq_default verdict_texts "no such verdict" {n = number} (omega arith))

pub byte_told : (what : Meaning) (number : ℕ) → telling_of what (cond (ltb number 256) number 0) ≡ telling_of what number
byte_told what number = ⊎_elim
    (λ h. rw (lt-ltb number 256 h))
    (λ h. rw (le-ltb number 256 h) (sym (untold what number h)))
    (lt_or_le number 256)

pub text_small : (room : ℕ) (what : Meaning) (number : ℕ) → Small (reply room (Ok (telling_of what number)))
text_small room what number =
    reply_small room (Ok (telling_of what number)) (λ xs e. let d : xs ≡ telling_of what number = cc in
    omega (arith, ap length d, text_fits what number))

pub text_told : (room : ℕ) (what : Meaning) (number : ℕ) →
    reply_of (reply_number (reply room (Ok (telling_of what number)))) ≡ reply room (Ok (telling_of what number))
text_told room what number = number_tells (reply room (Ok (telling_of what number))) (text_small room what number)
