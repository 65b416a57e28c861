-- `sheets::lines::counted` meets its contract: the word, the number's digits and the end of the line, each after the other.
use native.Mathlib.Omega.{arith}
use Rattle.ascii.proofs.PageWriting.{wrote_then}
use Rattle.ascii.proofs.Spelling.{decimal_short}
use Rattle.sheets.proofs.lines.counted.Goals as goal

pub put-requires : goal.put-requires
put-requires c = omega (
  arith,
  decimal_short c.args.n,
  c.number-last.ensures.ends,
  c.word-next.ensures.ends,
)

pub returns : goal.returns
returns c = wrote_then
    c.word-next.ensures
    (wrote_then c.number-last.ensures c.put.ensures)
