-- Every new ticket is short, so that the number that C gets tells the reply: `windows_told`.
-- Assumes nothing.
use mathlib.Core.Path.{◌≡◌}
use mathlib.Core.List.{List}
use Prim.Native.Nat.{ℕ}
use native.Mathlib.Omega.{arith}
use Rattle.reader.specs.Answer.{reply}
use Rattle.windows.specs.Narrowed.{new_ticket_of}
use Rattle.windows.proofs.NewTickets.{new_ticket_short}
use Rattle.exchange_c.specs.Replies.{reply_number, reply_of, Small}
use Rattle.exchange_c.proofs.ReplyLaws.{number_tells, reply_small}

pub windows_small : (room : ℕ) (ticket windows : List ℕ) → Small (reply room (new_ticket_of ticket windows))
windows_small room ticket windows =
    reply_small room (new_ticket_of ticket windows) (λ s e. omega (arith, new_ticket_short ticket windows s e))

pub windows_told : (room : ℕ) (ticket windows : List ℕ) →
    reply_of (reply_number (reply room (new_ticket_of ticket windows))) ≡ reply room (new_ticket_of ticket windows)
windows_told room ticket windows = number_tells (reply room (new_ticket_of ticket windows)) (windows_small room ticket windows)
