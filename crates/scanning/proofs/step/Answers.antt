-- `scanning::step` meets its contract: what refuses the state refuses the step.
use Rattle.scanning.proofs.Running.{met_is, refused_either}
use Rattle.scanning.proofs.step.Goals as goal

pub returns-in_err-state-in-Number : goal.returns-in_err-state-in-Number
returns-in_err-state-in-Number c =
    rw (met_is c.from_residual.result _ c.from_residual.ensures.1, c.in-Number.is)
    (refused_either _ _ _ _ (c.in_err-state-in-Number.ensures))
