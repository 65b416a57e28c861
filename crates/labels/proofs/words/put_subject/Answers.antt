-- `labels::words::put_subject` meets its contract: a case for each line, word by word.
use native.Mathlib.Omega.{arith}
use Rattle.pages.proofs.PutLaws.{put-within}
use Rattle.ascii.proofs.PageWriting.{wrote_then, wrote_length}
use Rattle.labels.proofs.LabelLaws.{number_put}
use Rattle.labels.proofs.words.put_subject.Goals as goal

pub returns-in-Grower : goal.returns-in-Grower
returns-in-Grower c h = let first = put-within c.put-next.ensures 7 (omega arith) (omega (arith, h)) in
    let last = number_put c.put_number.ensures (omega arith) (omega (arith, h, first.1, wrote_length first.0)) in
    rw c.in-Grower.is (wrote_then first.0 last.0, omega (arith, first.1, last.1))

pub returns-in-Pilot : goal.returns-in-Pilot
returns-in-Pilot c h = let first = put-within c.put-next-in-Pilot.ensures 7 (omega arith) (omega (arith, h)) in
    let last = number_put c.put_number-in-Pilot.ensures (omega arith) (omega (arith, h, first.1, wrote_length first.0)) in
    rw c.in-Pilot.is (wrote_then first.0 last.0, omega (arith, first.1, last.1))

pub returns-in-Pair : goal.returns-in-Pair
returns-in-Pair c h = let first = put-within c.put-next-in-Pair.ensures 5 (omega arith) (omega (arith, h)) in
    let l1 = wrote_length first.0 in
    let second = number_put c.put_number-later.ensures (omega arith) (omega (arith, h, first.1, l1)) in
    let l2 = wrote_length second.0 in
    let third = put-within c.put-last.ensures 1 (omega arith) (omega (arith, h, first.1, second.1, l1, l2)) in
    let l3 = wrote_length third.0 in
    let last = number_put c.put_number-in-Pair.ensures (omega arith) (omega (arith, h, first.1, second.1, third.1, l1, l2, l3)) in
    rw c.in-Pair.is
    (wrote_then first.0 (wrote_then second.0 (wrote_then third.0 last.0)), omega (arith, first.1, second.1, third.1, last.1))
