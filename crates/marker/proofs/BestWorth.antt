-- The worth that marking gives. Where the ticket has no tariff deals and the verdict is sound, it is the settlement's, and no feasible
-- settlement of the ticket is worth more; elsewhere it is 0.
-- Assumes nothing.
use Rattle.std.specs.Prelude.{Ok}
use Prim.Native.Nat.{ℕ, ◌≤◌, ◌<◌}
use mathlib.Core.Path.{◌≡◌, refl, sym, ap, ◌∙◌}
use mathlib.Core.Logic.{⊎_elim}
use mathlib.Core.List.{List}
use native.Mathlib.Omega.{arith}
use Rattle.grid.proofs.Cases.{eq_or_ne}
use Rattle.market.specs.Market.{Settlement, Feasible, Sound}
use Rattle.market.specs.Totals.{NoTariffDeals, total_worth, promised_worth}
use Rattle.market.proofs.PromisedWorth.{promised_without_tariff, promised_with_tariff, promised_best, same-worth}
use Rattle.reader.specs.Answer.{unpacked, settlement_read}
use Rattle.tables.specs.View.{growers_of, pilots_of, ticket_of, settlement_of}
use Rattle.verdicts.specs.declared.Verdict.{Verdict}
use Rattle.verdicts.specs.declared.Verdict.TheVariants.{Refused, TariffOverCap, FreeOverCap, WrongPay}
use Rattle.verdicts.specs.declared.Verdict.TheVariants.{GrowerOverHours, PilotOverHours, Idle, Blocks}
use Rattle.verdicts.specs.declared.Verdict.TheVariants as verdicts
use Rattle.verdicts.specs.Values.{verdict_number, verdict_worth, FoundFeasible}
use Rattle.marker.specs.Marked.{marked, SoundFiles}
use Rattle.marker.proofs.Soundness.{feasible_exactly}
use Rattle.marker.proofs.Marking.{marked_sound_exactly, sound_files_marked}

-- Only a sound verdict has a worth.
pub worth_only_if_sound : (v : Verdict) → ¬ (verdict_number v ≡ 1) → verdict_worth v ≡ 0
worth_only_if_sound (Refused why) unsound = refl
worth_only_if_sound (verdicts.Sound count worth) unsound = absurd (unsound refl)
worth_only_if_sound (TariffOverCap i j) unsound = refl
worth_only_if_sound (FreeOverCap i j) unsound = refl
worth_only_if_sound (WrongPay i j) unsound = refl
worth_only_if_sound (GrowerOverHours i) unsound = refl
worth_only_if_sound (PilotOverHours j) unsound = refl
worth_only_if_sound (Idle i j d count) unsound = refl
worth_only_if_sound (Blocks i j d count) unsound = refl

-- A ticket that passes its checks.
module _ (ticket xs : List ℕ) (passes : unpacked ticket ≡ Ok xs) where
  -- what stands in a settlement file that was marked
  abbrev Reads : List ℕ → List ℕ → Type 0
  Reads settlement ys = settlement_read (growers_of xs) (pilots_of xs) settlement ≡ Ok ys

  -- the numbers of the ticket's file are those that were read
  sound_numbers : (settlement : List ℕ) (f : SoundFiles ticket settlement) → f.numbers ≡ xs
  sound_numbers settlement f = let e : Ok f.numbers ≡ Ok xs = sym f.is_ticket ∙ passes in cc

  -- a settlement that marking finds sound
  record SoundIn (settlement : List ℕ) : Type 0 where
    answer : List ℕ
    reads : Reads settlement answer
    sound : Sound (ticket_of xs) (settlement_of answer)
    worth : verdict_worth (marked ticket settlement) ≡ promised_worth (ticket_of xs) (settlement_of answer).hours

  sound_in : (settlement : List ℕ) → verdict_number (marked ticket settlement) ≡ 1 → SoundIn settlement
  sound_in settlement one =
      let f = (marked_sound_exactly ticket settlement).0 one in
      let e = sound_numbers settlement f in
      record {
        answer = f.answer;
        reads = rw e at f.is_settlement;
        sound = rw e at f.sound;
        worth = ap verdict_worth (sound_files_marked ticket settlement f)
            ∙ ap (λ (zs : List ℕ). promised_worth (ticket_of zs) (settlement_of f.answer).hours) e;
      }

  -- A tariff cap above 0: no worth is given.
  pub worth-with_tariff : (settlement : List ℕ) (i j : ℕ) → i < growers_of xs → j < pilots_of xs → 0 < (ticket_of xs).tariff_cap i j →
      verdict_worth (marked ticket settlement) ≡ 0
  worth-with_tariff settlement i j hi hj some = ⊎_elim
      (λ one. let s = sound_in settlement one in
      s.worth ∙ promised_with_tariff (ticket_of xs) i j hi hj some (settlement_of s.answer).hours)
      (worth_only_if_sound (marked ticket settlement))
      (eq_or_ne (verdict_number (marked ticket settlement)) 1)

  module _ (none : NoTariffDeals (ticket_of xs)) (settlement : List ℕ) (sound : verdict_number (marked ticket settlement) ≡ 1) where
    -- The worth is that of the marked settlement.
    pub worth_of-marked : (ys : List ℕ) → Reads settlement ys →
        verdict_worth (marked ticket settlement) ≡ total_worth (ticket_of xs) (settlement_of ys).hours
    worth_of-marked ys reads =
        let s = sound_in settlement sound in
        let e : Ok s.answer ≡ Ok ys = sym s.reads ∙ reads in
        let same : s.answer ≡ ys = cc in
        s.worth ∙ promised_without_tariff (ticket_of xs) none (settlement_of s.answer).hours
        ∙ ap (λ (zs : List ℕ). total_worth (ticket_of xs) (settlement_of zs).hours) same

    -- No feasible settlement of the ticket is worth more.
    pub best_worth : (x : Settlement) → Feasible (ticket_of xs) x →
        total_worth (ticket_of xs) x.hours ≤ verdict_worth (marked ticket settlement)
    best_worth x f =
        let s = sound_in settlement sound in
        omega (arith, s.worth, promised_best (ticket_of xs) none (settlement_of s.answer) s.sound x f)

    -- In particular, none of a file that marking finds feasible.
    pub best_worth_of_files : (other ys : List ℕ) → Reads other ys → FoundFeasible (marked ticket other) →
        total_worth (ticket_of xs) (settlement_of ys).hours ≤ verdict_worth (marked ticket settlement)
    best_worth_of_files other ys reads found =
        best_worth (settlement_of ys) ((feasible_exactly (ticket_of xs) (settlement_of ys)).0 (rw (passes, reads) at found))

    -- Two sound settlements have the same worth.
    pub same-worth_of_files : (other : List ℕ) → verdict_number (marked ticket other) ≡ 1 →
        verdict_worth (marked ticket other) ≡ verdict_worth (marked ticket settlement)
    same-worth_of_files other sound' =
        let s = sound_in settlement sound in
        let s' = sound_in other sound' in
        s'.worth ∙ promised_without_tariff (ticket_of xs) none (settlement_of s'.answer).hours
        ∙ same-worth (ticket_of xs) none (settlement_of s.answer) s.sound (settlement_of s'.answer) s'.sound
        ∙ sym (promised_without_tariff (ticket_of xs) none (settlement_of s.answer).hours) ∙ sym s.worth
