-- `labels::words::put_lead` meets its contract: words, and what parts them from the next.
use Prim.Native.Nat.{◌<◌}
use lib.ListN.{length}
use native.Mathlib.Omega.{arith}
use Rattle.pages.proofs.PutLaws.{put-within}
use Rattle.ascii.proofs.PageWriting.{wrote_then, wrote_length}
use Rattle.labels.specs.Words.{subject}
use Rattle.labels.proofs.LabelLaws.{joined_some}
use Rattle.labels.proofs.words.put_lead.Goals as goal

pub returns : goal.returns
returns c h = let w = c.put_subject-next.ensures (omega arith) in
    let v = put-within c.put.ensures 2 h (omega (arith, w.1, wrote_length w.0)) in
    let a = c.args in
    let some : 0 < length (subject a.line) = omega (arith, w.0.ends, c.if-next-eq0.false) in
    rw (joined_some (subject a.line) a.between.now some) (wrote_then w.0 v.0, omega (arith, w.1, v.1))
