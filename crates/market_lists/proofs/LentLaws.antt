-- Lists written over lists, and what opening and calls leave in them.
-- Assumes nothing.
use Rattle.std.specs.Prelude.{Result, Ok, Err}
use Rattle.checks.specs.declared.refusals.Refusal.{Refusal}
use Prim.Native.Nat.{ℕ, ◌+◌, ◌≤◌, ◌<◌}
use mathlib.Core.Path.{◌≡◌, refl, sym, subst, ap, ◌∙◌}
use mathlib.Core.List.{List, ◌++◌, append-nil}
use native.Mathlib.Omega.{arith}
use mathlib.Core.Bool.{true, false}
use lib.Dec.{leb}
use borrow.Author.Tests.{le-leb, lt-leb}
use lib.ListN.{length, length-append, drop, drop_of_length-le, length-drop}
use lib.Seq.{sets, length-take-le}
use Rattle.ascii.proofs.PageWriting.{sets_append}
use Rattle.checks.specs.Refusals.{Checked}
use Rattle.reader.specs.Values.{Replied}
use Rattle.reader.specs.Answer.{settlement_packed, Tells, kept}
use Rattle.tables.specs.View.{growers_of, pilots_of, settlement_front}
use Rattle.reader.proofs.Facts.{written_front}
use Rattle.reader.proofs.Telling.{refuses, counts}
use Rattle.open_market.specs.declared.held.Market.{Market}
use Rattle.open_market.specs.Markets.{Opened, Replayed}
use Rattle.market_lists.specs.Lent.{market_length, numbers_in, part, market_in, OpenedIn, call_reply, call_on_paper, CalledIn, file_of}
use Rattle.market_lists.specs.Lent.{WrittenFrom}

-- A list written over another of its length.
pub written_over : (zeros xs : List ℕ) → length xs ≡ length zeros → sets zeros 0 xs ≡ xs
written_over zeros xs e =
    written_front zeros xs (omega (arith, e))
    ∙ ap (λ (r : List ℕ). xs ++ r) (drop_of_length-le zeros {i = length xs} (omega (arith, e)))
    ∙ append-nil xs

-- A part of a list, copied over zeros.
pub part_long : (count from : ℕ) (list : List ℕ) → from + count ≤ length list → length (part count from list) ≡ count
part_long count from list room = length-take-le count (drop from list) (omega (arith, length-drop from list))

pub part_copied : (count from : ℕ) (list zeros copy : List ℕ) → from + count ≤ length list → length zeros ≡ count →
    copy ≡ sets zeros 0 (part count from list) → copy ≡ part count from list
part_copied count from list zeros copy room z e = e ∙ written_over zeros (part count from list) (part_long count from list room ∙ sym z)

-- How long the parts of a market are, which the types of its fields tell, and all of them together.
pub record Lengths (market : Market) : Type 0 where
  pub ticket_long : length market.ticket ≡ 1315
  pub settlement_long : length market.settlement ≡ 771
  pub growers_long : length market.grower_free_hours ≡ 16
  pub pilots_long : length market.pilot_free_hours ≡ 16

pub numbers_long : (market : Market) → Lengths market → length (numbers_in market) ≡ market_length
numbers_long market l = omega (
  arith,
  length-append market.ticket (market.settlement ++ (market.grower_free_hours ++ market.pilot_free_hours)),
  length-append market.settlement (market.grower_free_hours ++ market.pilot_free_hours),
  length-append market.grower_free_hours market.pilot_free_hours,
  l.ticket_long,
  l.settlement_long,
  l.growers_long,
  l.pilots_long,
)

-- Lists written one after another.
pub next_written : (list mid after xs ys : List ℕ) (from at : ℕ) → at ≡ from + length xs → mid ≡ sets list from xs →
    after ≡ sets mid at ys → after ≡ sets list from (xs ++ ys)
next_written list mid after xs ys from at e f g = g ∙ rw (f, e) (sets_append list from xs ys)

-- What opening answers and leaves.
pub open_refused : (file lent : List ℕ) (w : Refusal) → Opened file (Err w) → OpenedIn file lent lent (Err w)
open_refused file lent w o = record { answer = Err w; opened = o; tells = refuses _ _ refl; left = refl }

module _ (file lent : List ℕ) (market : Market) (o : Opened file (Ok market)) (long : length (numbers_in market) ≡ market_length) where
  pub open_short : length lent < market_length → OpenedIn file lent lent (Err Refusal.NoRoom)
  open_short h =
      let few : leb (length (numbers_in market)) (length lent) ≡ false =
      lt-leb (length (numbers_in market)) (length lent) (omega (arith, long)) in
      record { answer = Ok market; opened = o; tells = rw few (refuses _ _ refl); left = rw few }

  pub open_done : (after : List ℕ) → market_length ≤ length lent → after ≡ sets lent 0 (numbers_in market) →
      OpenedIn file lent after (Ok market_length)
  open_done after h e =
      let room : leb (length (numbers_in market)) (length lent) ≡ true =
      le-leb (length (numbers_in market)) (length lent) (omega (arith, long)) in
      record { answer = Ok market; opened = o; tells = rw (room, long) (counts _ _ refl); left = rw room e }

-- What calls answer and leave.
pub no_market : (calls lent : List ℕ) → length lent < market_length → CalledIn calls lent lent (Err Refusal.NoRoom)
no_market calls lent h = record { short = λ _. (refuses _ Refusal.NoRoom refl, refl); done = λ room. absurd (omega arith) }

module _ (calls lent after : List ℕ) (refusal : Checked) (last : Market) (room : market_length ≤ length lent) (m : Market)
    (held : m ≡ market_in lent) (d : Replayed m calls refusal last) (e : after ≡ sets lent 0 (numbers_in last)) where
  calls_done : (r : Result ℕ Refusal) → Replied r (call_reply refusal) (call_on_paper refusal) → CalledIn calls lent after r
  calls_done r t = record {
    short = λ h. absurd (omega arith);
    done = λ _. record {
      refusal = refusal;
      last = last;
      replayed = subst (λ (n : Market). Replayed n calls refusal last) held d;
      tells = t;
      left = e;
    };
  }

  pub some_refused : (w : Refusal) (r : Result ℕ Refusal) → refusal ≡ Err w → r ≡ Err w → CalledIn calls lent after r
  some_refused w r f g = calls_done r (rw f (refuses _ _ g))

  pub all_accepted : refusal ≡ Ok tt → CalledIn calls lent after (Ok market_length)
  all_accepted f = calls_done _ (rw f (counts _ _ refl))

-- What writing the settlement answers and leaves.
pub nothing_held : (list lent : List ℕ) → length list < market_length → WrittenFrom list lent lent (Err Refusal.NoRoom)
nothing_held list lent h = record { short = λ _. (refuses _ Refusal.NoRoom refl, refl); written = λ room. absurd (omega arith) }

pub settlement_written : (list lent after front : List ℕ) (n m : ℕ) (r : Result ℕ Refusal) → market_length ≤ length list →
    let settlement = (market_in list).settlement in
    front ≡ settlement_front settlement → n ≡ growers_of settlement → m ≡ pilots_of settlement →
    Tells r (length lent) (settlement_packed n m front) → after ≡ kept lent (settlement_packed n m front) → WrittenFrom list lent after r
settlement_written list lent after front n m r room e en em t k =
    let o : settlement_packed n m front ≡ file_of (market_in list).settlement = rw (e, en, em) in
    record { short = λ h. absurd (omega arith); written = λ _. (rw o at t, rw o at k) }
