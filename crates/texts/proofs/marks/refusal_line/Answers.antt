-- `texts::marks::refusal_line` meets its contract: the word, the number and the end of the line, each after the other.
use native.Mathlib.Omega.{arith}
use Rattle.ascii.proofs.PageWriting.{wrote_then}
use Rattle.ascii.proofs.Spelling.{decimal_short}
use Rattle.texts.proofs.LineWriting.{room_after}
use Rattle.texts.proofs.marks.refusal_line.Goals as goal

pub word-requires : goal.word-requires
word-requires c = let first = room_after 8 4 c.word-next.ensures (omega arith)
    (omega (arith, c.requires)) in
    room_after 3 1 c.number-last.ensures (decimal_short _) (omega arith)

pub returns : goal.returns
returns c = wrote_then
    c.word-next.ensures
    (wrote_then (rw c.from.ensures at c.number-last.ensures) c.word.ensures)
