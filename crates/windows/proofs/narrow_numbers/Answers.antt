-- `windows::narrow_numbers` meets its contract: the windows are refused, or the pairs narrowed and packed.
use mathlib.Core.Path.{sym}
use Rattle.windows.proofs.Answering.{narrowed_answers}
use Rattle.windows.proofs.narrow_numbers.Goals as goal

pub returns : goal.returns
returns c =
    let a = c.args in
    let both = narrowed_answers a.windows.now a.ticket _ _ c.entry.ensures c.entry-2.ensures (sym c.in_ok-refusal.ensures) _ _ _ _ _
    c.narrow_pairs.ensures c.ticket_front.ensures (c.pack.ensures.tells, c.pack.ensures.ticket_after) in
    record { tells = both.0; new_ticket_after = both.1 }
