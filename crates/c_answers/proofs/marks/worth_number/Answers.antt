-- `c_answers::marks::worth_number` meets its contract: the worth of the marker's verdict as a number.
use Rattle.c_answers.proofs.MarkLaws.{worth_small}
use Rattle.c_answers.proofs.marks.worth_number.Goals as goal

pub values_worth-requires : goal.values_worth-requires
values_worth-requires c = rw c.marked_values.ensures (worth_small _ _)
