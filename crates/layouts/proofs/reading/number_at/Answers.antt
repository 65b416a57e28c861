-- `layouts::reading::number_at` meets its contract: after the digits before k the number so far and what is left make the whole.
use mathlib.Core.Path.{refl, ap}
use native.Mathlib.Omega.{arith}
use Rattle.std.specs.Prelude.{Some, None}
use Rattle.layouts.proofs.ReadingLaws.{digits_turn, digits_end, digits_stop, digits_none}
use Rattle.layouts.proofs.reading.number_at.Goals as goal

pub returns-in-Ends : goal.returns-in-Ends
returns-in-Ends c = digits_end c.loop-k.invariant (omega arith) _ c.in_ok-after_digits.ensures (ap (λ s. Some s) c.in-Ends.is)

pub loop-k-preserved : goal.loop-k-preserved
loop-k-preserved c = digits_turn c.loop-k.invariant (omega arith) _ c.in_ok-after_digits.ensures _ (ap (λ s. Some s) c.in-More.is)

pub returns : goal.returns
returns c = digits_none c.loop-k.invariant (omega arith)

pub returns-in_err-after_digits : goal.returns-in_err-after_digits
returns-in_err-after_digits c =
    rw c.from_residual.ensures (digits_stop c.loop-k.invariant (omega arith) None c.in_err-after_digits.ensures refl)
