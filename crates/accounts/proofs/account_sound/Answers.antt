-- `accounts::account_sound` meets its contract: the ticket's bytes are refused, or unpacked into numbers for which the settlement is sound.
use Rattle.scanning.proofs.Running.{met_is}
use Rattle.marker.proofs.Marking.{unpacked_is}
use Rattle.accounts.proofs.Accounting.{sound_for, refused_account, sound_account}
use Rattle.accounts.proofs.account_sound.Goals as goal

pub account_against-requires : goal.account_against-requires
account_against-requires c = sound_for _ _ _ c.requires
    (unpacked_is _ _ _ _ c.in_ok-count.ensures.tells.reply (rw c.unpack.ensures.list_after at c.front.ensures))

pub returns-in_err-count : goal.returns-in_err-count
returns-in_err-count c = rw (met_is c.from_residual.result _ c.from_residual.ensures.1) (refused_account _ c.args.settlement.now c.ticket_list-numbers.result _ c.ticket_list-numbers.ensures.1
    c.in_err-count.ensures.tells.reply)

pub returns : goal.returns
returns c = sound_account _ _ _ _ c.requires
    (unpacked_is _ _ _ _ c.in_ok-count.ensures.tells.reply (rw c.unpack.ensures.list_after at c.front.ensures))
    c.account_against.ensures
