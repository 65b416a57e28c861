-- `market_lists::copying::held` meets its contract: each part is written over zeros of its length.
use mathlib.Core.Path.{sym}
use native.Mathlib.Omega.{arith}
use Rattle.open_market.proofs.CallLaws.{same_market}
use Rattle.market_lists.proofs.LentLaws.{part_long, part_copied}
use Rattle.market_lists.proofs.copying.held.Goals as goal

pub slice_bounds-copy_at-end-2 : goal.slice_bounds-copy_at-end-2
slice_bounds-copy_at-end-2 c = sym (part_long 1315 0 c.args.list.now (omega (arith, c.requires)))

pub copy_at-requires : goal.copy_at-requires
copy_at-requires c = omega (arith, part_long 1315 0 c.args.list.now (omega (arith, c.requires)), c.ticket_list-ticket.ensures.1)

pub returns : goal.returns
returns c = let t = c.ticket_list-ticket in
    let l = c.settlement_list-settlement in
    same_market _ _
    (part_copied 1315 0 c.args.list.now t.result _ (omega (arith, c.requires)) t.ensures.1 c.copy_at.ensures.list_after)
    (part_copied 771 1315 c.args.list.now l.result _ (omega (arith, c.requires)) l.ensures.1 c.copy_at-2.ensures.list_after)
    c.row_at.ensures
    c.row_at-2.ensures
