-- `reader::copy::deliver` meets its contract: the answer of the check, of the lent length and of the writing, put together.
use native.Mathlib.Omega.{arith}
use Rattle.reader.proofs.Packing.{packs, pack_short, pack_done}
use Rattle.reader.proofs.copy.deliver.Goals as goal

pub size_all-written-requires : goal.size_all-written-requires
size_all-written-requires c = (packs _ _ _ c.in_ok-scan_list.ensures).short

pub returns-then-out-written : goal.returns-then-out-written
returns-then-out-written c =
    let both = pack_short c.args.document c.args.list.now c.args.out.now (packs _ _ _ c.in_ok-scan_list.ensures)
    (omega (arith, c.size_all-written.ensures, c.if-out-written.true)) in
    record { tells = both.0; out_after = both.1 }

pub returns : goal.returns
returns c =
    let both = pack_done c.args.document c.args.list.now c.args.out.now _ _ (packs _ _ _ c.in_ok-scan_list.ensures)
    c.size_all-written.ensures c.if-out-written.false c.write_all.ensures in
    record { tells = both.0; out_after = both.1 }
