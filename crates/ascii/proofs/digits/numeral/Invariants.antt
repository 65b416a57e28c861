-- `ascii::digits::numeral` meets its contract: after each turn the digits of what is left, before those that are written, make the number.
use Rattle.ascii.proofs.NumeralLaws.{Numbering}
use Rattle.ascii.proofs.digits.numeral.Given as goal

abbrev pub invariant-loop-rest : goal.invariant-loop-rest
invariant-loop-rest l = Numbering l.initial.digits l.digits l.n l.first l.rest

abbrev pub decreases-loop-rest : goal.decreases-loop-rest
decreases-loop-rest l = l.rest
