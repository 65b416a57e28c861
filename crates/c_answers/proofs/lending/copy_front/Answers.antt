-- `c_answers::lending::copy_front` meets its contract: the numbers stand before what was after them.
use mathlib.Core.Path.{sym}
use Rattle.reader.proofs.Facts.{written_front}
use Rattle.c_answers.proofs.lending.copy_front.Goals as goal

pub returns : goal.returns
returns c = rw c.copy_from_slice.ensures.after (sym (written_front _ _ c.requires))
