-- `labels::words::put_head_name` meets its contract: a name for each column.
use native.Mathlib.Omega.{arith}
use Rattle.pages.proofs.PutLaws.{put-within}
use Rattle.labels.proofs.words.put_head_name.Goals as goal

pub returns-in-0-Ticket : goal.returns-in-0-Ticket
returns-in-0-Ticket c h = let w = put-within c.put.ensures 15 (omega arith) (omega (arith, h)) in
    rw (c.in-0-Ticket.is-0, c.in-0-Ticket.is-1) w

pub returns-in-0-Settlement : goal.returns-in-0-Settlement
returns-in-0-Settlement c h = let w = put-within c.put-in-0-Settlement.ensures 15 (omega arith) (omega (arith, h)) in
    rw (c.in-0-Settlement.is-0, c.in-0-Settlement.is-1) w
