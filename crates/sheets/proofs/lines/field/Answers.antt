-- `sheets::lines::field` meets its contract: the amount, and then one byte.
use native.Mathlib.Omega.{arith}
use Rattle.ascii.proofs.PageWriting.{wrote_then}
use Rattle.ascii.proofs.Spelling.{decimal_short}
use Rattle.sheets.proofs.lines.field.Goals as goal

pub put-requires : goal.put-requires
put-requires c = omega (arith, decimal_short c.from.result, c.number-next.ensures.ends)

pub returns : goal.returns
returns c = wrote_then (rw c.from.ensures at c.number-next.ensures) c.put.ensures
