-- `c_answers::marks::mark_number` meets its contract: the values of the marker's verdict as a number.
use Rattle.marker.proofs.ValueBounds.{marked_bounded}
use Rattle.c_answers.proofs.marks.mark_number.Goals as goal

pub values_number-requires : goal.values_number-requires
values_number-requires c = rw c.marked_values.ensures (marked_bounded _ _)
