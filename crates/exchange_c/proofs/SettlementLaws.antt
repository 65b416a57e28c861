-- The settlement of a ticket is short, so that the number that C gets tells the reply: `read_told`, `write_told`.
-- Assumes nothing.
use Rattle.std.specs.Prelude.{Ok, Err}
use mathlib.Core.Path.{◌≡◌, refl}
use mathlib.Core.Bool.{Bool, true, false, cond}
use mathlib.Core.List.{List}
use Prim.Native.Nat.{ℕ, ◌≤◌, ◌<◌}
use native.Mathlib.Omega.{arith}
use borrow.Author.Tests.{leb-true}
use lib.Dec.{leb}
use lib.ListN.{length}
use Rattle.grid.proofs.EveryLaws.{both_hold}
use Rattle.checks.specs.declared.refusals.Refusal.{Refusal}
use Rattle.reader.specs.Walk.{Outcome}
use Rattle.reader.specs.Answer.{settlement_read, settlement_packed, reply}
use Rattle.reader.proofs.Facts.{settlement_shape, settlement_few, settlement-packed_read}
use Rattle.exchange_c.specs.Replies.{reply_number, reply_of, Small}
use Rattle.exchange_c.specs.Settlements.{in_ticket, of_ticket}
use Rattle.exchange_c.proofs.ReplyLaws.{number_tells, reply_small, settlement_short}

-- what has a small count for 16 growers and pilots at most, has one for any
of_ticket_small : (room n m : ℕ) (o : Outcome) → (n ≤ 16 → m ≤ 16 → (xs : List ℕ) → o ≡ Ok xs → length xs < 65536) →
    Small (reply room (of_ticket n m o))
of_ticket_small room n m o h = go (in_ticket n m) refl
  where
    go : (b : Bool) → in_ticket n m ≡ b → Small (reply room (cond b o (Err Refusal.OtherParties)))
    go true e =
        let both = both_hold (leb n 16) (leb m 16) e in
        reply_small room o (h (leb-true n 16 both.0) (leb-true m 16 both.1))
    go false e = tt

pub read_small : (room n m : ℕ) (s : List ℕ) → Small (reply room (of_ticket n m (settlement_read n m s)))
read_small room n m s =
    of_ticket_small room n m (settlement_read n m s)
    (λ hn hm xs e. omega (arith, settlement_few n m xs (settlement_shape n m s xs e) hn hm))

pub write_small : (room n m : ℕ) (list : List ℕ) → Small (reply room (of_ticket n m (settlement_packed n m list)))
write_small room n m list =
    of_ticket_small room n m (settlement_packed n m list)
    (λ hn hm s e. omega (arith, settlement_short n m s list hn hm (settlement-packed_read n m list s e)))

pub read_told : (room n m : ℕ) (s : List ℕ) →
    reply_of (reply_number (reply room (of_ticket n m (settlement_read n m s)))) ≡ reply room (of_ticket n m (settlement_read n m s))
read_told room n m s = number_tells (reply room (of_ticket n m (settlement_read n m s))) (read_small room n m s)

pub write_told : (room n m : ℕ) (list : List ℕ) →
    reply_of (reply_number (reply room (of_ticket n m (settlement_packed n m list)))) ≡ reply room (of_ticket n m (settlement_packed n m list))
write_told room n m list = number_tells (reply room (of_ticket n m (settlement_packed n m list))) (write_small room n m list)
