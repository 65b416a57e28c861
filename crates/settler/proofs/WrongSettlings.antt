-- What the contract of `settle` rules out, in one: answers to the paper's ticket A, for which a buffer of 7 bytes is enough.
-- Assumes nothing.
use Rattle.std.specs.Prelude.{Ok, Err}
use Prim.Native.Nat.{ℕ, zero, suc, ◌≤◌, ◌<◌}
use mathlib.Core.Path.{◌≡◌, refl, sym, ap, ◌∙◌}
use mathlib.Core.List.{List, [], ◌∷◌}
use native.Mathlib.Omega.{arith}
use lib.ListN.{length, take, drop}
use Rattle.grid.specs.First.{first}
use Rattle.grid.specs.Sum.{sum}
use Rattle.grid.proofs.Cases.{never}
use Rattle.checks.specs.declared.refusals.Refusal.{Refusal}
use Rattle.groups.specs.Groups.{read_from}
use Rattle.reader.specs.Walk.{walk, form}
use Rattle.reader.specs.Answer.{unpacked}
use Rattle.market.specs.declared.Deal.TheVariants.{Tariff, Free}
use Rattle.market.specs.Market.{Idle}
use Rattle.tables.specs.View.{ticket_of, settlement_of}
use Rattle.verdicts.specs.Tests.{cheapest_of}
use Rattle.verdicts.specs.Values.{verdict_number, sound_values}
use Rattle.marker.specs.Marked.{marked, marked_values}
use Rattle.marker.specs.Examples.{ticket_a, ticket_d}
use Rattle.marker.proofs.Examples.{examples}
use Rattle.settler.specs.Settled.{Settled, SoundNumbers}
use Rattle.settler.proofs.Answering.{room_answers, answers_settle, not_refused, done_settled}

pub record WrongSettlings : Type 0 where
  -- a length, whatever it is, over an untouched buffer that begins with 0, as one of zeros does
  pub untouched : (rest : List ℕ) (count : ℕ) → ¬ Settled ticket_a (0 ∷ rest) (0 ∷ rest) (Ok count)
  -- a settlement without hours
  pub without_hours : (lent : List ℕ) → ¬ Settled ticket_a lent (2 ∷ 1 ∷ 1 ∷ 0 ∷ 0 ∷ 0 ∷ drop 6 lent) (Ok 6)
  -- one stock settlement, and beside it that marking finds it sound for ticket D
  pub stock : (lent : List ℕ) → ¬ Settled ticket_a lent (2 ∷ 1 ∷ 1 ∷ 0 ∷ 1 ∷ 5 ∷ drop 6 lent) (Ok 6)
  pub stock_for_d : marked_values ticket_d (2 ∷ 1 ∷ 1 ∷ 0 ∷ 1 ∷ 5 ∷ []) ≡ sound_values 2 10
  -- any stock settlement: nothing that is written settles both A and D
  pub any_stock : (lent after : List ℕ) (count : ℕ) → Settled ticket_a lent after (Ok count) →
      ¬ Settled ticket_d lent after (Ok count)
  -- refusal 10 of a buffer of exactly 7 bytes, and beside it that this refusal is due of every shorter one
  pub early : (lent after : List ℕ) → length lent ≡ 7 → ¬ Settled ticket_a lent after (Err Refusal.NoRoom)
  pub short : (lent : List ℕ) → length lent < 7 → Settled ticket_a lent lent (Err Refusal.NoRoom)
  -- any refusal where there is room
  pub refused : (lent after : List ℕ) (why : Refusal) → 7 ≤ length lent → ¬ Settled ticket_a lent after (Err why)

-- The numbers of a ticket of small numbers are its bytes.
unpacked_a : unpacked ticket_a ≡ Ok ticket_a
unfolding form walk read_from
unpacked_a = refl

unpacked_d : unpacked ticket_d ≡ Ok ticket_d
unfolding form walk read_from
unpacked_d = refl

-- What is written and reported is marked sound, with verdict 1.
marked_sound : (lent after : List ℕ) (count : ℕ) → Settled ticket_a lent after (Ok count) →
    verdict_number (marked ticket_a (take count after)) ≡ 1
marked_sound lent after count s = ap verdict_number (done_settled ticket_a ticket_a lent after unpacked_a count s).marks

not_untouched : (rest : List ℕ) (count : ℕ) → ¬ Settled ticket_a (0 ∷ rest) (0 ∷ rest) (Ok count)
unfolding form walk read_from
not_untouched rest zero s = never (marked_sound _ _ zero s)
not_untouched rest (suc count) s = never (marked_sound _ _ (suc count) s)

not_without_hours : (lent : List ℕ) → ¬ Settled ticket_a lent (2 ∷ 1 ∷ 1 ∷ 0 ∷ 0 ∷ 0 ∷ drop 6 lent) (Ok 6)
unfolding form walk read_from first sum cheapest_of
not_without_hours lent s = let e : ◌≡◌ {A = ℕ} 7 1 = marked_sound _ _ 6 s in omega arith

not_stock : (lent : List ℕ) → ¬ Settled ticket_a lent (2 ∷ 1 ∷ 1 ∷ 0 ∷ 1 ∷ 5 ∷ drop 6 lent) (Ok 6)
unfolding form walk read_from first sum cheapest_of
not_stock lent s = let e : ◌≡◌ {A = ℕ} 3 1 = marked_sound _ _ 6 s in omega arith

-- A's tariff deal would be idle without hours, and D's has cap 0.
not_sound_for_both : (numbers : List ℕ) → SoundNumbers ticket_a numbers → ¬ SoundNumbers ticket_d numbers
unfolding sum
not_sound_for_both numbers a d =
    let tariff = d.sound.feasible.fits.deal Tariff 0 0 (omega arith) (omega arith) in
    let free = a.sound.feasible.fits.deal Free 0 0 (omega arith) (omega arith) in
    let idle : Idle (ticket_of ticket_a) (settlement_of numbers) Tariff 0 0 =
    record { unfilled = omega arith; grower = omega arith; pilot = omega arith; welcome = (omega arith, omega arith) } in
    a.sound.nothing_idle Tariff 0 0 (omega arith) (omega arith) idle

no_stock_for_both : (lent after : List ℕ) (count : ℕ) → Settled ticket_a lent after (Ok count) →
    ¬ Settled ticket_d lent after (Ok count)
no_stock_for_both lent after count a d =
    let of_a = done_settled ticket_a ticket_a lent after unpacked_a count a in
    let of_d = done_settled ticket_d ticket_d lent after unpacked_d count d in
    let files : Ok of_d.numbers ≡ Ok of_a.numbers = sym of_d.file ∙ of_a.file in
    let same : of_d.numbers ≡ of_a.numbers = cc in
    not_sound_for_both of_a.numbers of_a.good (rw same at of_d.good)

pub wrong_settlings : WrongSettlings
wrong_settlings = record {
  untouched = not_untouched;
  without_hours = not_without_hours;
  stock = not_stock;
  stock_for_d = examples.d1;
  any_stock = no_stock_for_both;
  early = λ lent after seven. not_refused ticket_a ticket_a lent after unpacked_a Refusal.NoRoom (omega arith);
  short = λ lent few. answers_settle ticket_a ticket_a lent lent _ unpacked_a
      (room_answers ticket_a lent 1 1 1 refl refl refl few ticket_a unpacked_a);
  refused = λ lent after why room. not_refused ticket_a ticket_a lent after unpacked_a why room;
}
