-- `layouts::writing::write` meets its contract: the text is written on a page and then copied if the buffer has room for it.
use native.Mathlib.Omega.{arith}
use lib.ListN.{length-take}
use Rattle.layouts.specs.Text.{longest}
use Rattle.layouts.proofs.WritingLaws.{told_copied}
use Rattle.layouts.proofs.writing.write.Goals as goal

pub fill-count-requires : goal.fill-count-requires
fill-count-requires c = rw (c.front.ensures, length-take longest _) (omega arith)

pub returns : goal.returns
returns c = let w = rw c.front.ensures at c.fill-count.ensures.0 in
    let p = c.put.ensures in
    let both = told_copied _ w (omega (arith, c.fill-count.ensures.1, c.page-own.ensures)) _ c.if-text-count.false
    (rw c.front-2.ensures at p) in
    record { tells = both.0; text_after = both.1 }
