-- `draws::deliver` meets its contract: the list has room for the numbers or not.
use native.Mathlib.Omega.{arith}
use Rattle.draws.proofs.Passing.{no_room_delivers, filled_delivers}
use Rattle.draws.proofs.deliver.Goals as goal

pub returns-then-list-count : goal.returns-then-list-count
returns-then-list-count c = let both = no_room_delivers c.args.growers c.args.pilots c.args.x _ c.args.list.now (c.pairs-pairs.ensures.1 (omega arith) (omega arith)) c.if-list-count.true in
    record { value = both.0; list_after = both.1 }

pub returns : goal.returns
returns c = let both = filled_delivers c.args.growers c.args.pilots c.args.x _ c.args.list.now
    (c.pairs-pairs.ensures.1 (omega arith) (omega arith))
    _
    c.if-list-count.false
    c.fill.ensures in
    record { value = both.0; list_after = both.1 }
