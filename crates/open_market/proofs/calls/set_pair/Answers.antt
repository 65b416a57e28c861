-- `open_market::calls::set_pair` meets its contract: the call is refused, or the ticket after it settled.
use mathlib.Core.Path.{refl, sym}
use Rattle.scanning.proofs.Running.{met_is}
use Rattle.ticket_calls.specs.Calls.{SetPair}
use Rattle.open_market.proofs.CallLaws.{refused_called, accepted_called, called_after}
use Rattle.open_market.proofs.calls.set_pair.Goals as goal

pub returns-in_err-set_pair-clause-answer : goal.returns-in_err-set_pair-clause-answer
returns-in_err-set_pair-clause-answer c = refused_called (SetPair c.args.grower c.args.pilot c.args.terms) c.args.market _ _ (sym c.in_err-set_pair.ensures.value)
    (met_is c.from_residual.result _ c.from_residual.ensures.1)

pub returns-in_err-set_pair-clause-after : goal.returns-in_err-set_pair-clause-after
returns-in_err-set_pair-clause-after c = called_after (SetPair c.args.grower c.args.pilot c.args.terms) c.args.market _ (refused_called (SetPair c.args.grower c.args.pilot c.args.terms) c.args.market _ _
    (sym c.in_err-set_pair.ensures.value) (met_is c.from_residual.result _ c.from_residual.ensures.1))

pub returns-clause-answer : goal.returns-clause-answer
returns-clause-answer c = accepted_called (SetPair c.args.grower c.args.pilot c.args.terms) c.args.market _ _ _ (sym c.in_ok-set_pair.ensures.value) c.set_pair.ensures.ticket_after c.settled-changed.ensures refl

pub returns-clause-after : goal.returns-clause-after
returns-clause-after c = called_after (SetPair c.args.grower c.args.pilot c.args.terms) c.args.market _ (accepted_called (SetPair c.args.grower c.args.pilot c.args.terms) c.args.market _ _ _ (sym c.in_ok-set_pair.ensures.value)
    c.set_pair.ensures.ticket_after c.settled-changed.ensures refl)
