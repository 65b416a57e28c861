-- `ascii::digits::numeral` meets its contract: after each turn the digits of what is left, before those that are written, make the number.
use native.Mathlib.Omega.{arith}
use Rattle.ascii.proofs.NumeralLaws.{numbering_turns, numbering_ends}
use Rattle.ascii.proofs.digits.numeral.Goals as goal

pub loop-rest-preserved : goal.loop-rest-preserved
loop-rest-preserved c = numbering_turns c.loop-rest.invariant c.last_digit.result c.last_digit.ensures (omega arith)

pub returns : goal.returns
returns c = numbering_ends c.loop-rest.invariant c.last_digit-2.result c.last_digit-2.ensures (omega arith)
