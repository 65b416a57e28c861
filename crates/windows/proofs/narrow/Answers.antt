-- `windows::narrow` meets its contract: the ticket's bytes are refused, or unpacked into numbers that are narrowed.
use Rattle.std.specs.Prelude.{Ok}
use Prim.Native.Nat.{ℕ}
use mathlib.Core.List.{List}
use mathlib.Core.Path.{◌≡◌}
use Rattle.reader.specs.Answer.{unpacked}
use Rattle.ticket_calls.proofs.InFront.{unpacked_in_front}
use Rattle.windows.specs.Held.{InFront}
use Rattle.scanning.proofs.Running.{met_is}
use Rattle.windows.proofs.Answering.{ticket_refused, ticket-unpacked}
use Rattle.windows.proofs.narrow.Goals as goal

pub narrow_numbers-requires : goal.narrow_numbers-requires
narrow_numbers-requires c =
    let h0 : (xs : List ℕ) × (unpacked c.args.ticket.now ≡ Ok xs) × InFront xs c.unpack.new.list =
    unpacked_in_front _ _ _ _ c.ticket_list-list.ensures.1 c.in_ok-unpack.ensures.tells.reply
    c.unpack.ensures.list_after in
    let here = h0.2 in rw here.front here

pub returns-in_err-unpack : goal.returns-in_err-unpack
returns-in_err-unpack c =
    let r = met_is c.from_residual.result _ c.from_residual.ensures.1 in
    let both = ticket_refused _ _ c.ticket_list-list.result _ _ c.ticket_list-list.ensures.1 c.in_err-unpack.ensures.tells.reply in
    record { tells = rw r both.0; new_ticket_after = both.1 }

pub returns : goal.returns
returns c =
    let h0 : (xs : List ℕ) × (unpacked c.args.ticket.now ≡ Ok xs) × InFront xs c.unpack.new.list =
    unpacked_in_front _ _ _ _ c.ticket_list-list.ensures.1 c.in_ok-unpack.ensures.tells.reply
    c.unpack.ensures.list_after in
    let both = ticket-unpacked _ _ h0.0 _ _ _ _ h0.1 h0.2 (c.narrow_numbers.ensures.tells, c.narrow_numbers.ensures.new_ticket_after) in
    record { tells = both.0; new_ticket_after = both.1 }
