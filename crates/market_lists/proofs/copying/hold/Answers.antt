-- `market_lists::copying::hold` meets its contract: the four parts are written one after another.
use native.Mathlib.Omega.{arith}
use borrow.Author.Rules.{rules}
use Rattle.market_lists.proofs.LentLaws.{Lengths, next_written}
use Rattle.market_lists.proofs.copying.hold.Goals as goal

pub returns : goal.returns
returns c = let long = (let h0 : Lengths c.args.market = record { ticket_long = search rules; settlement_long = search rules; growers_long = search rules; pilots_long = search rules } in h0) in
    let m = c.args.market in
    next_written _ _ _ m.ticket _ 0 1315 (omega (arith, long.ticket_long)) c.copy_at.ensures.list_after
    (next_written _ _ _ m.settlement _ 1315 2086 (omega (arith, long.settlement_long)) c.copy_at-2.ensures.list_after
    (next_written _ _ _ m.grower_free_hours _ 2086 2102 (omega (arith, long.growers_long)) c.copy_at-3.ensures.list_after
    c.copy_at-4.ensures.list_after))
