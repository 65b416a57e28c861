-- Every reply about a market has a small count, so its number tells it: `open_told`, `call_told`, `settlement_told`.
-- Assumes nothing.
use Rattle.std.specs.Prelude.{Result, Ok, Err}
use Rattle.checks.specs.declared.refusals.Refusal.{Refusal}
use Prim.Native.Nat.{ℕ, ◌≤◌, ◌<◌}
use mathlib.Core.Logic.{⊎_elim}
use mathlib.Core.Path.{◌≡◌, subst, ap, ◌∙◌}
use mathlib.Core.List.{List, []}
use native.Mathlib.Omega.{arith}
use lib.ListN.{length, drop, replicate, length-take, length-replicate}
use lib.Seq.{length-sets}
use Rattle.grid.proofs.Cases.{lt_or_le, never}
use Rattle.reader.specs.Walk.{Outcome}
use Rattle.documents.specs.Layout.{settlement}
use Rattle.reader.specs.Answer.{unpacked, reply}
use Rattle.groups.specs.Groups.{bytes}
use Rattle.documents.proofs.WalkLaws.{form_accepts}
use Rattle.reader.proofs.Facts.{settlement-packed_read}
use Rattle.tables.specs.View.{growers_of, pilots_of, settlement_front, settlement_length}
use Rattle.open_market.specs.declared.held.Market.{Market}
use Rattle.checks.specs.Refusals.{Checked, giving}
use Rattle.open_market.specs.Markets.{Opened, OpenedAs}
use Rattle.market_lists.specs.Lent.{market_length, numbers_in, market_in, outcome_of, OpenedIn, CalledIn, file_of, WrittenFrom}
use Rattle.market_lists.proofs.LentLaws.{Lengths, numbers_long}
use Rattle.exchange_c.specs.Replies.{reply_of, Small, NumberOf}
use Rattle.exchange_c.proofs.ReplyLaws.{reply_small, number_tells, gives_short}

-- A market that was opened has as many numbers as every market, whatever the ticket.
pub opened_lengths : (o : Outcome) (market : Market) → OpenedAs o (Ok market) → Lengths market
opened_lengths (Err w) market s = never cc
opened_lengths (Ok xs) market s =
    let f = s.1 in
    let same : s.0 ≡ market = cc in
    subst Lengths same (record {
      ticket_long = ap length s.2.ticket_held ∙ length-sets (replicate {A = ℕ} 1315 0) 0 xs ∙ length-replicate {A = ℕ} 1315 0;
      settlement_long = s.2.settled.settled.long;
      growers_long = s.2.settled.free.growers_in.row.long;
      pilots_long = s.2.settled.free.pilots_in.row.long;
    })

pub open_small : (file lent after : List ℕ) (r : Result ℕ Refusal) → OpenedIn file lent after r → Small r
open_small file lent after r o = rw o.tells.reply (go o.answer o.opened)
  where
    go : (answer : Result Market Refusal) → Opened file answer → Small (reply (length lent) (outcome_of answer))
    go (Ok market) opened =
        reply_small (length lent) (Ok (numbers_in market))
        (λ ys e. let d : numbers_in market ≡ ys = cc in
        omega (arith, numbers_long market (opened_lengths (unpacked file) market opened), ap length d))
    go (Err w) opened = tt

-- Calls answer the length of a market, or a refusal.
pub call_small : (calls lent after : List ℕ) (r : Result ℕ Refusal) → CalledIn calls lent after r → Small r
call_small calls lent after r c = ⊎_elim
    (λ h. rw (c.short h).0.reply tt)
    (λ h. let d = c.done h in rw d.tells.reply (go d.refusal))
    (lt_or_le (length lent) market_length)
  where
    go : (refusal : Checked) → Small (giving refusal market_length)
    go (Ok _) = omega arith
    go (Err w) = tt

-- The numbers of a settlement are at most 771, of two bytes each.
file_short : (xs s : List ℕ) → length xs ≤ 771 → file_of xs ≡ Ok s → length s < 65536
file_short xs s h e =
    let r = settlement-packed_read (growers_of xs) (pilots_of xs) (settlement_front xs) s e in
    let k = length-take (settlement_length (growers_of xs) (pilots_of xs)) xs in
    omega (
      arith,
      h,
      k,
      gives_short s (settlement_front xs) [] (form_accepts (settlement (growers_of xs) (pilots_of xs)) bytes s (settlement_front xs) r).1,
    )

pub settlement_small : (list lent after : List ℕ) (r : Result ℕ Refusal) → WrittenFrom list lent after r → Small r
settlement_small list lent after r w = ⊎_elim
    (λ h. rw (w.short h).0.reply tt)
    (λ h. rw (w.written h).0.reply (reply_small (length lent) (file_of (market_in list).settlement)
    (λ s e. file_short (market_in list).settlement s (omega (arith, length-take 771 (drop 1315 list))) e)))
    (lt_or_le (length list) market_length)

-- Nothing is lost: the number that C gets tells the reply.
pub open_told : (file lent after : List ℕ) (number : ℕ) → NumberOf (OpenedIn file lent after) number →
    OpenedIn file lent after (reply_of number)
open_told file lent after number a =
    rw (a.same, number_tells a.reply (open_small file lent after a.reply a.allowed)) a.allowed

pub call_told : (calls lent after : List ℕ) (number : ℕ) → NumberOf (CalledIn calls lent after) number →
    CalledIn calls lent after (reply_of number)
call_told calls lent after number a =
    rw (a.same, number_tells a.reply (call_small calls lent after a.reply a.allowed)) a.allowed

pub settlement_told : (list lent after : List ℕ) (number : ℕ) → NumberOf (WrittenFrom list lent after) number →
    WrittenFrom list lent after (reply_of number)
settlement_told list lent after number a =
    rw (a.same, number_tells a.reply (settlement_small list lent after a.reply a.allowed)) a.allowed
