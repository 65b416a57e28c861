-- `layouts::reading::copy_front` meets its contract: what is copied stands in front.
use mathlib.Core.Path.{sym}
use Rattle.reader.proofs.Facts.{written_front}
use Rattle.layouts.proofs.reading.copy_front.Goals as goal

pub returns : goal.returns
returns c = rw c.copy_from_slice.ensures.after (sym (written_front c.args.list.now c.args.numbers.now c.requires))
