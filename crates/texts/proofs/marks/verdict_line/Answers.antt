-- `texts::marks::verdict_line` meets its contract: the head, the deal, the count and the end of the line, each after the other, with
-- the room that is left.
use native.Mathlib.Omega.{arith}
use Rattle.ascii.proofs.PageWriting.{wrote_then}
use Rattle.ascii.proofs.Spelling.{decimal_short}
use Rattle.texts.proofs.LineWriting.{room_after, head_short, deal_short}
use Rattle.texts.proofs.marks.verdict_line.Goals as goal

pub deal_word-last-requires : goal.deal_word-last-requires
deal_word-last-requires c = room_after 17 7 c.head-next.ensures
    (head_short c.args.values) (omega (arith, c.requires.1))

pub number-end-requires : goal.number-end-requires
number-end-requires c = let v = c.args.values in
    let next = room_after 17 10 c.head-next.ensures (head_short v)
    (omega (arith, c.requires.1)) in
    (omega (arith, c.requires.0.count), room_after 7 3 c.deal_word-last.ensures (deal_short v.deal) next)

pub word-requires : goal.word-requires
word-requires c = let v = c.args.values in
    let next = room_after 17 11 c.head-next.ensures (head_short v) (omega (arith, c.requires.1)) in
    let last = room_after 7 4 c.deal_word-last.ensures
    (deal_short v.deal) next in
    room_after 3 1 c.number-end.ensures (decimal_short v.count) last

pub returns : goal.returns
returns c = wrote_then
    c.head-next.ensures
    (wrote_then
    c.deal_word-last.ensures
    (wrote_then c.number-end.ensures c.word.ensures))
