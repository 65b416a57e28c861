-- `accounts::account` meets its contract: the verdict of marking decides.
use mathlib.Core.Path.{sym, ap, ◌∙◌}
use Rattle.marker.proofs.Marking.{marked_sound_exactly}
use Rattle.verdicts.specs.Values.{verdict_number}
use Rattle.accounts.proofs.account.Goals as goal

pub account_sound-requires : goal.account_sound-requires
account_sound-requires c = let m = c.mark-verdict in
    (marked_sound_exactly _ _).0 (ap verdict_number (sym m.ensures.value ∙ c.in-Sound.is))
