-- `scanning::walk` meets its contract: the invariant is `Running`: what the whole run comes to is what it comes to from here.
use mathlib.Core.Path.{sym}
use Rattle.scanning.proofs.Running.{met_is, running_ends, running_refused, running_turns}
use Rattle.scanning.proofs.walk.Goals as goal

pub returns-in_err-here : goal.returns-in_err-here
returns-in_err-here g c =
    rw (met_is c.from_residual.result _ c.from_residual.ensures.1)
    (running_refused _ _ _ c.loop-k.invariant _ _ c.loop-k-test.true c.number_at-got.ensures (sym (c.in_err-here.ensures)))

pub loop-k-preserved : goal.loop-k-preserved
loop-k-preserved g c =
    running_turns _ _ _ c.loop-k.invariant _ _ c.loop-k-test.true c.number_at-got.ensures (sym c.in_ok-here.ensures)

pub returns : goal.returns
returns g c = running_ends _ _ _ c.loop-k.invariant c.loop-k-test.false
