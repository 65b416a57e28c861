-- `reader::copy::receive_each` meets its contract: the answer of the scan, of the lent length and of the filling, put together.
use Rattle.reader.proofs.Filling.{scanned_fills, reply-filled}
use Rattle.reader.proofs.copy.receive_each.Goals as goal

pub fill-requires : goal.fill-requires
fill-requires c = record { fillable = (scanned_fills c.args.document _ _ c.in_ok-count.ensures).0; count_in_bounds = c.if-list-count.false }

pub returns : goal.returns
returns c =
    let both = reply-filled c.args.document c.args.s.now c.args.list.now _ _ c.in_ok-count.ensures c.if-list-count.false c.fill.ensures in
    record { tells = both.0; list_after = both.1 }
