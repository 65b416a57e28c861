-- `texts::marks::spaced` meets its contract: the number, then a space.
use native.Mathlib.Omega.{arith}
use Rattle.ascii.proofs.PageWriting.{wrote_then}
use Rattle.ascii.proofs.Spelling.{decimal_short}
use Rattle.texts.proofs.LineWriting.{room_after}
use Rattle.texts.proofs.marks.spaced.Goals as goal

pub word-requires : goal.word-requires
word-requires c = room_after 3 1
    c.number-next.ensures
    (decimal_short _)
    (omega (arith, c.requires))

pub returns : goal.returns
returns c = wrote_then c.number-next.ensures c.word.ensures
