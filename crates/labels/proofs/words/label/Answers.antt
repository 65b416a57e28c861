-- `labels::words::label` meets its contract: the subject at the start of a line, the name, and a blank.
use native.Mathlib.Omega.{arith}
use Rattle.pages.proofs.PutLaws.{put-within}
use Rattle.ascii.proofs.PageWriting.{wrote_then, wrote_length}
use Rattle.labels.proofs.words.label.Goals as goal

pub returns : goal.returns
returns c = let e = c.spot_of-spot.ensures in
    let first = c.put_opening-next.ensures in
    let second = c.put_field-last.ensures (omega (arith, first.1)) in
    let last = put-within c.put.ensures 1 (omega arith) (omega (arith, first.1, second.1, wrote_length first.0, wrote_length second.0)) in
    rw (← e) (wrote_then first.0 (wrote_then second.0 last.0), omega (arith, first.1, second.1, last.1))
