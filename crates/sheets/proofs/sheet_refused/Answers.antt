-- `sheets::sheet_refused` meets its contract: the line of the refusal is copied if the buffer has room for it.
use Rattle.sheets.proofs.PrintLaws.{refusal_in_page, end_within, sheeted_copied}
use Rattle.sheets.proofs.PrintLaws.{refusal_printed, refusal_room}
use Rattle.sheets.proofs.sheet_refused.Goals as goal

pub copy-requires : goal.copy-requires
copy-requires c = let v = rw (c.from.ensures, c.from-number.ensures) at c.counted-end.ensures in
    end_within (refusal_printed _ v) c.blank-page.ensures (refusal_in_page _) _
    (refusal_room _ v _ c.if-text-end.false)

pub returns : goal.returns
returns c = let v = rw (c.from.ensures, c.from-number.ensures) at c.counted-end.ensures in
    sheeted_copied (refusal_printed _ v) c.blank-page.ensures
    (refusal_in_page _) _ _
    (refusal_room _ v _ c.if-text-end.false)
    c.copy.ensures
