-- `open_market::calls::set_hours` meets its contract: the call is refused, or the ticket after it settled.
use mathlib.Core.Path.{refl, sym}
use Rattle.scanning.proofs.Running.{met_is}
use Rattle.ticket_calls.specs.Calls.{SetHours}
use Rattle.open_market.proofs.CallLaws.{refused_called, accepted_called, called_after}
use Rattle.open_market.proofs.calls.set_hours.Goals as goal

pub returns-in_err-set_hours-clause-answer : goal.returns-in_err-set_hours-clause-answer
returns-in_err-set_hours-clause-answer c = refused_called (SetHours c.args.party c.args.hours) c.args.market _ _ (sym c.in_err-set_hours.ensures.value)
    (met_is c.from_residual.result _ c.from_residual.ensures.1)

pub returns-in_err-set_hours-clause-after : goal.returns-in_err-set_hours-clause-after
returns-in_err-set_hours-clause-after c = called_after (SetHours c.args.party c.args.hours) c.args.market _ (refused_called (SetHours c.args.party c.args.hours) c.args.market _ _
    (sym c.in_err-set_hours.ensures.value) (met_is c.from_residual.result _ c.from_residual.ensures.1))

pub returns-clause-answer : goal.returns-clause-answer
returns-clause-answer c = accepted_called (SetHours c.args.party c.args.hours) c.args.market _ _ _ (sym c.in_ok-set_hours.ensures.value) c.set_hours.ensures.ticket_after c.settled-next.ensures refl

pub returns-clause-after : goal.returns-clause-after
returns-clause-after c = called_after (SetHours c.args.party c.args.hours) c.args.market _ (accepted_called (SetHours c.args.party c.args.hours) c.args.market _ _ _ (sym c.in_ok-set_hours.ensures.value)
    c.set_hours.ensures.ticket_after c.settled-next.ensures refl)
