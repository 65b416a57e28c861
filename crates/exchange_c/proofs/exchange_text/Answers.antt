-- `exchange_c::exchange_text` meets its contract: the reply of `texts` as a number.
use mathlib.Core.Path.{◌≡◌, ap, ◌∙◌}
use lib.ListN.{length}
use Rattle.texts.specs.Meanings.{telling_of}
use Rattle.exchange_c.specs.Replies.{reply_number}
use Rattle.exchange_c.specs.Texts.{meaning_of}
use Rattle.exchange_c.proofs.TextLaws.{byte_told, text_small}
use Rattle.exchange_c.proofs.exchange_text.Goals as goal

pub reply_number-requires : goal.reply_number-requires
reply_number-requires c = let a = c.args in
    rw c.telling.ensures.tells.reply (text_small (length a.text.now) c.meaning_of.result c.byte_of.result)

-- the text is that of the number which C gave
pub returns : goal.returns
returns c =
    let a = c.args in
    let told = c.telling.ensures in
    let text : telling_of c.meaning_of.result c.byte_of.result ≡ telling_of (meaning_of a.what) a.number =
    rw (c.meaning_of.ensures, c.byte_of.ensures) (byte_told (meaning_of a.what) a.number) in
    record {
      value = rw (← text) (c.reply_number.ensures ∙ ap reply_number told.tells.reply);
      text_after = rw (← text) told.text_after;
    }
