-- `accounts::account_against` meets its contract: the settlement's bytes are refused, or read into numbers whose account is made.
use Rattle.std.specs.Prelude.{Ok}
use mathlib.Core.Path.{ap}
use Rattle.scanning.proofs.Running.{met_is}
use Rattle.marker.proofs.Marking.{answer_is}
use Rattle.accounts.proofs.Accounting.{refused_settlement, read_modest, read_account}
use Rattle.accounts.proofs.account_against.Goals as goal

pub account_numbers-requires : goal.account_numbers-requires
account_numbers-requires c = read_modest _ _ _ _ _ c.requires c.growers-growers.ensures.0 c.pilots-pilots.ensures.0
    (answer_is _ _ _ _ _ _ c.in_ok-count.ensures.tells.reply (rw c.read_settlement.ensures.list_after at c.front.ensures))

pub returns-in_err-count : goal.returns-in_err-count
returns-in_err-count c = rw (met_is c.from_residual.result _ c.from_residual.ensures.1) (refused_settlement _ _ c.settlement_list-numbers.result _ _ _ c.requires
    c.growers-growers.ensures.0 c.pilots-pilots.ensures.0 c.settlement_list-numbers.ensures.1
    c.in_err-count.ensures.tells.reply)

pub returns : goal.returns
returns c = read_account c.args.ticket.now _ _ _ _ _ c.growers-growers.ensures.0 c.pilots-pilots.ensures.0
    (answer_is _ _ _ _ _ _ c.in_ok-count.ensures.tells.reply (rw c.read_settlement.ensures.list_after at c.front.ensures))
    (ap Ok c.account_numbers.ensures)
