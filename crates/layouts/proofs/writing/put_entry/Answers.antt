-- `layouts::writing::put_entry` meets its contract: the label, the number, and what parts it from the next.
use mathlib.Core.Path.{◌∙◌}
use native.Mathlib.Omega.{arith}
use Rattle.ascii.proofs.PageWriting.{wrote_then, wrote_length}
use Rattle.pages.proofs.PutLaws.{put-within}
use Rattle.labels.proofs.LabelLaws.{number_put}
use Rattle.layouts.proofs.WritingLaws.{front_is}
use Rattle.layouts.proofs.writing.put_entry.Goals as goal

pub returns : goal.returns
returns c h = let label = c.label-count in
    let is = front_is _ label.ensures.0 (omega (arith, label.ensures.1)) in
    let first = put-within (rw (c.front.ensures ∙ is) at c.put-next.ensures) 64 (omega (arith, label.ensures.0.ends, label.ensures.1)) (omega (arith, h)) in
    let second = number_put (rw c.from.ensures at c.put_number-last.ensures) (omega arith) (omega (arith, h, first.1, wrote_length first.0)) in
    let last = c.put_separator.ensures (omega (arith, h, first.1, second.1, wrote_length first.0, wrote_length second.0)) in
    (wrote_then first.0 (wrote_then second.0 last.0), omega (arith, first.1, second.1, last.1))
