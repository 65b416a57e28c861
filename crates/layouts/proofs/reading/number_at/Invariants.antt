-- `layouts::reading::number_at` meets its contract: after the digits before k the number so far and what is left make the whole.
use Rattle.layouts.proofs.ReadingLaws.{Digits}
use Rattle.layouts.proofs.reading.number_at.Given as goal

abbrev pub invariant-loop-k : goal.invariant-loop-k
invariant-loop-k l = Digits l.text l.at l.value l.seen l.k
