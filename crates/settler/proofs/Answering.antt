-- The whole answer of settling, put together: a sound settlement's numbers, packed into the lent buffer.
-- Assumes nothing.
use Rattle.std.specs.Prelude.{Result, Ok, Err}
use Rattle.checks.specs.declared.refusals.Refusal.{Refusal}
use Prim.Native.Nat.{ℕ, ◌+◌, ◌*◌, ◌≤◌, ◌<◌}
use mathlib.Core.Path.{◌≡◌, refl, ap, ◌∙◌}
use mathlib.Core.List.{List, ◌++◌}
use mathlib.Core.Logic.{⊎_elim}
use native.Mathlib.Omega.{arith}
use lib.ListN.{length, take, drop}
use lib.Seq.{take_at, drop-append_seam}
use Rattle.grid.proofs.Cases.{lt_or_le, never}
use Rattle.reader.specs.Answer.{unpacked, settlement_read, settlement_packed, reply, kept}
use Rattle.reader.proofs.Facts.{unpacked_shape, settlement-packed_read, reply-with_room, kept-with_room, reply_refused}
use Rattle.reader.proofs.Telling.{refuses, counts}
use Rattle.tables.specs.View.{growers_of, pilots_of, settlement_front}
use Rattle.marker.proofs.Marking.{sound_files_marked}
use Rattle.settler.specs.Settled.{room_for, SettledIn, Answers, Settled}
use Rattle.settler.specs.Numbers.{AnswersNumbers, SoundFront}

module _ (xs list lent after : List ℕ) (r : Result ℕ Refusal) (f : SoundFront xs list) (room : room_for xs ≤ length lent)
    (answered : r ≡ reply (length lent) (settlement_packed (growers_of xs) (pilots_of xs) (settlement_front list)))
    (left : after ≡ kept lent (settlement_packed (growers_of xs) (pilots_of xs) (settlement_front list))) where
  fits : length f.bytes ≤ length lent
  fits = omega (arith, f.short, room)

  front : after ≡ f.bytes ++ drop (length f.bytes) lent
  front = left ∙ ap (kept lent) f.packs ∙ kept-with_room lent f.bytes fits

  read : settlement_read (growers_of xs) (pilots_of xs) (take (length f.bytes) after) ≡ Ok (settlement_front list)
  read =
      ap (λ (s : List ℕ). settlement_read (growers_of xs) (pilots_of xs) (take (length f.bytes) s)) front
      ∙ ap (settlement_read (growers_of xs) (pilots_of xs)) (take_at f.bytes (drop (length f.bytes) lent) (length f.bytes) refl)
      ∙ settlement-packed_read (growers_of xs) (pilots_of xs) (settlement_front list) f.bytes f.packs

  settled_in : (ticket : List ℕ) → unpacked ticket ≡ Ok xs → SettledIn ticket xs lent after (length f.bytes)
  settled_in ticket e = record {
    within = fits;
    numbers = settlement_front list;
    file = read;
    good = f.good;
    marks = sound_files_marked ticket (take (length f.bytes) after)
        (record { numbers = xs; answer = settlement_front list; is_ticket = e; is_settlement = read; sound = f.good.sound });
    rest = ap (drop (length f.bytes)) front ∙ drop-append_seam f.bytes (drop (length f.bytes) lent);
  }

  settled_answers : AnswersNumbers xs lent after r
  settled_answers ticket e = record {
    short = λ h. absurd (omega arith);
    settled = λ _. (
      length f.bytes,
      counts r _ (answered ∙ ap (reply (length lent)) f.packs ∙ reply-with_room (length lent) f.bytes fits),
      settled_in ticket e,
    );
  }

-- The same of what the code has read and cut: growers, pilots and pairs as numbers of their own, and the front of the list.
pub written_answers : (xs list own lent after : List ℕ) (r : Result ℕ Refusal) (growers pilots pairs : ℕ) → SoundFront xs list →
    growers ≡ growers_of xs → pilots ≡ pilots_of xs → pairs ≡ growers * pilots → own ≡ settlement_front list →
    3 + 4 * pairs ≤ length lent → r ≡ reply (length lent) (settlement_packed growers pilots own) →
    after ≡ kept lent (settlement_packed growers pilots own) → AnswersNumbers xs lent after r
written_answers xs list own lent after r growers pilots pairs f eg ep e cut room answered left =
    settled_answers xs list lent after r f (omega (arith, room, count)) (answered ∙ ap (reply (length lent)) same)
    (left ∙ ap (kept lent) same)
  where
    count : pairs ≡ growers_of xs * pilots_of xs
    count = e ∙ rw (eg, ep)

    same : settlement_packed growers pilots own ≡ settlement_packed (growers_of xs) (pilots_of xs) (settlement_front list)
    same = rw (eg, ep, cut)

pub room_answers : (xs lent : List ℕ) (growers pilots pairs : ℕ) → growers ≡ growers_of xs → pilots ≡ pilots_of xs →
    pairs ≡ growers * pilots → length lent < 3 + 4 * pairs → AnswersNumbers xs lent lent (Err Refusal.NoRoom)
room_answers xs lent growers pilots pairs eg ep e h ticket _ =
    let count : pairs ≡ growers_of xs * pilots_of xs = e ∙ rw (eg, ep) in
    record { short = λ _. (refuses _ Refusal.NoRoom refl, refl); settled = λ l. absurd (omega (arith, count)) }

-- From the ticket's bytes: what was refused, and what was unpacked.
pub refused_settles : (s zeros lent : List ℕ) (w : Refusal) → length zeros ≡ 1315 → Err w ≡ reply (length zeros) (unpacked s) →
    Settled s lent lent (Err w)
refused_settles s zeros lent w long e =
    rw (reply_refused (length zeros) (unpacked s) w (λ xs f. omega (arith, (unpacked_shape s xs f).few, long)) e) (refuses _ w refl, refl)

pub answers_settle : (s list lent after : List ℕ) (r : Result ℕ Refusal) → unpacked s ≡ Ok list → Answers s list lent after r →
    Settled s lent after r
answers_settle s list lent after r e a = rw e a

-- What an answer to a ticket that passes its checks says: no refusal where there is room, and a length is that of a settlement.
module _ (ticket xs lent after : List ℕ) (e : unpacked ticket ≡ Ok xs) where
  pub not_refused : (why : Refusal) → room_for xs ≤ length lent → ¬ Settled ticket lent after (Err why)
  not_refused why room s = let a = rw e at s in let f = (a.settled room).1.reply in never cc

  pub done_settled : (count : ℕ) → Settled ticket lent after (Ok count) → SettledIn ticket xs lent after count
  done_settled count s =
      let a = rw e at s in
      ⊎_elim
      (λ few. let f = (a.short few).0.reply in never cc)
      (λ room. let z = a.settled room in let f = z.1.reply in let same : z.0 ≡ count = cc in rw same at z.2)
      (lt_or_le (length lent) (room_for xs))
