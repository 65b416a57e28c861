-- `labels::words::name` meets its contract: the line and the name on it.
use native.Mathlib.Omega.{arith}
use Rattle.ascii.proofs.PageWriting.{wrote_then}
use Rattle.labels.proofs.words.name.Goals as goal

pub returns : goal.returns
returns c = let e = c.spot_of-spot.ensures in
    let first = c.put_lead-next.ensures (omega arith) in
    let last = c.put_field.ensures (omega (arith, first.1)) in
    rw (← e) (wrote_then first.0 last.0, omega (arith, first.1, last.1))
