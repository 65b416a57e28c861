-- `ticket_calls::changes::clear` meets its contract: the pairs are cleared one after another.
use mathlib.Core.Path.{sym}
use native.Mathlib.Omega.{arith}
use Rattle.ticket_calls.proofs.ChangeLaws.{cleared-none, clearable, clears}
use Rattle.ticket_calls.proofs.changes.clear.Goals as goal

pub loop-k-init : goal.loop-k-init
loop-k-init c = (omega arith, sym (cleared-none _ _))

pub change_terms-requires : goal.change_terms-requires
change_terms-requires c =
    let both = clearable c.args.party c.args.ticket.now _ _ c.loop-k.invariant.1 c.requires
    (omega (arith, c.partners-count.ensures, c.loop-k-test.true)) in
    record { ticket_value = both.0; partner_bound = both.1 }

pub loop-k-preserved : goal.loop-k-preserved
loop-k-preserved c = (
  omega (arith, c.loop-k-test.true),
  clears c.args.party c.args.ticket.now _ _ c.loop-k.invariant.1 c.requires _
      (rw c.no_terms.ensures at c.change_terms.ensures),
)
