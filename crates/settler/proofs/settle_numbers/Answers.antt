-- `settler::settle_numbers` meets its contract: too little room is refused, else the sound list is packed into the buffer.
use mathlib.Core.Path.{◌≡◌}
use Prim.Native.Nat.{◌*◌}
use native.Mathlib.Omega.{arith}
use Rattle.marker.proofs.TicketLimits.{limits}
use Rattle.settler.proofs.SettlementNumbers.{sound_front}
use Rattle.settler.proofs.Answering.{written_answers}
use Rattle.settler.proofs.settle_numbers.Goals as goal

pub returns : goal.returns
returns c = let l = c.settle_list-list in
    let w = c.write_settlement in
    let xs = c.args.ticket.now in
    written_answers xs _ _ _ _ _ _ _ _ (sound_front xs _ c.requires l.ensures)
    c.growers-growers.ensures.0 c.pilots-pilots.ensures.0 ((let h0 : c.pairs-pairs.result ≡ c.growers-growers.result * c.pilots-pilots.result = let is = c.requires in
    let t = limits is.bytes _ is.from in
    c.pairs-pairs.ensures.1 (omega (arith, c.growers-growers.ensures.0, t.growers))
    (omega (arith, c.pilots-pilots.ensures.0, t.pilots)) in h0))
    c.settlement_front.ensures c.if-settlement-pairs.false w.ensures.tells.reply w.ensures.settlement_after
