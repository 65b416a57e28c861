-- `texts::marks::head` meets its contract: the word and three numbers, each after the other, with the room that is left.
use native.Mathlib.Omega.{arith}
use Rattle.ascii.proofs.PageWriting.{wrote_then}
use Rattle.texts.proofs.LineWriting.{room_after, field_short}
use Rattle.texts.proofs.marks.head.Goals as goal

pub spaced-third-requires : goal.spaced-third-requires
spaced-third-requires c = let first = room_after 5 8 c.word-first.ensures (omega arith)
    (omega (arith, c.requires.1)) in
    (omega (arith, c.requires.0.grower), room_after 4 4 c.spaced-second.ensures (field_short _) first)

pub spaced-requires : goal.spaced-requires
spaced-requires c = let first = room_after 5 12 c.word-first.ensures (omega arith) (omega (arith, c.requires.1)) in
    let second = room_after 4 8 c.spaced-second.ensures (field_short _) first in
    (omega (arith, c.requires.0.pilot), room_after 4 4 c.spaced-third.ensures (field_short _) second)

pub returns : goal.returns
returns c = wrote_then
    c.word-first.ensures
    (wrote_then
    (rw c.from.ensures at c.spaced-second.ensures)
    (wrote_then c.spaced-third.ensures c.spaced.ensures))
