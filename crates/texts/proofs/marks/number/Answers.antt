-- `texts::marks::number` meets its contract: the digits that stand at the array's end are the number's.
use mathlib.Core.Path.{◌≡◌, ap}
use Prim.Native.Nat.{◌-◌}
use native.Mathlib.Omega.{arith}
use lib.ListN.{length, take, drop}
use Rattle.ascii.specs.Decimal.{decimal}
use Rattle.ascii.proofs.PageWriting.{wrote_same}
use Rattle.ascii.proofs.NumeralLaws.{decimal-part}
use Rattle.ascii.proofs.Spelling.{decimal_short}
use Rattle.texts.proofs.marks.number.Goals as goal

pub word-requires : goal.word-requires
word-requires c = omega (
  arith,
  ap length ((let h0 : take (20 - c.numeral-first.result) (drop c.numeral-first.result c.numeral-first.new.digits)
      ≡ decimal c.args.n = decimal-part c.args.n c.requires.0 (omega arith) c.numeral-first.ensures in h0)),
  decimal_short c.args.n,
)

pub returns : goal.returns
returns c = wrote_same _ ((let h0 : take (20 - c.numeral-first.result) (drop c.numeral-first.result c.numeral-first.new.digits)
    ≡ decimal c.args.n = decimal-part c.args.n c.requires.0 (omega arith) c.numeral-first.ensures in h0)) c.word.ensures
