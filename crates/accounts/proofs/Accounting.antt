-- From files to their account: what is read of them, and what marking says of them.
-- Assumes nothing.
use Rattle.std.specs.Prelude.{Result, Ok, Err}
use Rattle.checks.specs.declared.refusals.Refusal.{Refusal}
use Prim.Native.Nat.{ℕ, ◌≤◌}
use mathlib.Core.Path.{◌≡◌, refl, sym, ap, ◌∙◌}
use mathlib.Core.List.{List, [], ◌∷◌}
use native.Mathlib.Omega.{arith}
use lib.ListN.{length}
use types.Run.{OneOf, miss}
use denote.Enum.Declared.{tag_of}
use Rattle.reader.specs.Walk.{Outcome}
use Rattle.reader.specs.Answer.{unpacked, settlement_read, reply}
use Rattle.reader.proofs.Facts.{settlement_shape, settlement_few, reply_refused}
use Rattle.tables.specs.View.{growers_of, pilots_of, ticket_of, settlement_of}
use Rattle.verdicts.specs.declared.Verdict.{Verdict}
use Rattle.verdicts.specs.declared.Verdict.TheVariants.{Refused, Sound, TariffOverCap, FreeOverCap, WrongPay}
use Rattle.verdicts.specs.declared.Verdict.TheVariants.{GrowerOverHours, PilotOverHours, Idle, Blocks}
use Rattle.verdicts.specs.contracts.Verdict.{the_type}
use Rattle.marker.specs.Marked.{marked, SoundFiles}
use Rattle.marker.proofs.Marking.{sound_files_marked, refused_ticket}
use Rattle.marker.proofs.TicketLimits.{limits}
use Rattle.accounts.specs.declared.listing.Account.{Account}
use Rattle.accounts.specs.Accounted.{account_numbers, account_in, account_values, values_in, outcome_by, account_outcome, accounted, accounted_values}
use Rattle.accounts.specs.Earnings.{Modest}
use Rattle.accounts.specs.Listing.{SoundFor, account_of}
use Rattle.accounts.proofs.EarningLaws.{files_modest}

-- the settlement is refused, whose list has room for all that is read
pub refused_settlement : (xs s zeros : List ℕ) (n m : ℕ) (w : Refusal) → SoundFor xs s → n ≡ growers_of xs → m ≡ pilots_of xs → length zeros ≡ 771 →
    Err w ≡ reply (length zeros) (settlement_read n m s) →
    account_in (Err w) ≡ account_of xs (settlement_read (growers_of xs) (pilots_of xs) s)
refused_settlement xs s zeros n m w is en em long e =
    let l = limits is.bytes xs is.is_ticket in
    let hn : n ≤ 16 = omega (arith, l.growers) in
    let hm : m ≤ 16 = omega (arith, l.pilots) in
    let r = reply_refused (length zeros) (settlement_read n m s) w
    (λ ys h. omega (arith, long, settlement_few n m ys (settlement_shape n m s ys h) hn hm)) e in
    rw (← en, ← em, r)

-- it is read into numbers, of which nobody earns much
pub read_modest : (xs s ys : List ℕ) (n m : ℕ) → SoundFor xs s → n ≡ growers_of xs → m ≡ pilots_of xs →
    settlement_read n m s ≡ Ok ys → Modest xs ys
read_modest xs s ys n m is en em e =
    let r : settlement_read (growers_of xs) (pilots_of xs) s ≡ Ok ys = rw (← en, ← em) e in
    let same : is.answer ≡ ys = cc (sym is.is_settlement ∙ r) in
    files_modest is.bytes xs s ys is.is_ticket r (rw same at is.sound.feasible)

pub read_account : (xs s ys : List ℕ) (n m : ℕ) (a : Result Account Refusal) → n ≡ growers_of xs → m ≡ pilots_of xs → settlement_read n m s ≡ Ok ys →
    a ≡ account_in (Ok (account_numbers (ticket_of xs) (settlement_of ys))) →
    a ≡ account_of xs (settlement_read (growers_of xs) (pilots_of xs) s)
read_account xs s ys n m a en em e f = rw (← en, ← em, e) f

-- the ticket of sound files
pub sound_for : (t s xs : List ℕ) → SoundFiles t s → unpacked t ≡ Ok xs → SoundFor xs s
sound_for t s xs f e =
    let same : f.numbers ≡ xs = cc (sym f.is_ticket ∙ e) in
    record {
      bytes = t;
      is_ticket = e;
      answer = f.answer;
      is_settlement = rw same at f.is_settlement;
      sound = rw same at f.sound;
    }

pub refused_account : (t s zeros : List ℕ) (w : Refusal) → length zeros ≡ 1315 → Err w ≡ reply (length zeros) (unpacked t) →
    account_in (Err w) ≡ accounted t s
refused_account t s zeros w long e = rw (← refused_ticket t s zeros w long e)

pub sound_account : (t s xs : List ℕ) (a : Result Account Refusal) → SoundFiles t s → unpacked t ≡ Ok xs →
    a ≡ account_of xs (settlement_read (growers_of xs) (pilots_of xs) s) → a ≡ accounted t s
sound_account t s xs a f e r =
    let is = sound_for t s xs f e in
    rw (sound_files_marked t s f, e, is.is_settlement) (r ∙ ap (account_of xs) is.is_settlement)

-- by what marking says
pub refused_marked : (t s : List ℕ) (a : Result Account Refusal) (w v : Refusal) → a ≡ account_in (Err w) → w ≡ v → marked t s ≡ Refused v → a ≡ accounted t s
refused_marked t s a w v e same m = rw (m, ← same) e

-- every verdict from the third on is a fault
fault_by : (v : Verdict) (xs : List ℕ) → OneOf (2 ∷ 3 ∷ 4 ∷ 5 ∷ 6 ∷ 7 ∷ 8 ∷ []) (tag_of the_type v) →
    account_in (Err Refusal.NotSound) ≡ account_in (outcome_by v xs)
fault_by (Refused w) xs k = absurd (miss (2 ∷ 3 ∷ 4 ∷ 5 ∷ 6 ∷ 7 ∷ 8 ∷ []) 0 tt k)
fault_by (Sound count worth) xs k = absurd (miss (2 ∷ 3 ∷ 4 ∷ 5 ∷ 6 ∷ 7 ∷ 8 ∷ []) 1 tt k)
fault_by (TariffOverCap i j) xs k = refl
fault_by (FreeOverCap i j) xs k = refl
fault_by (WrongPay i j) xs k = refl
fault_by (GrowerOverHours i) xs k = refl
fault_by (PilotOverHours j) xs k = refl
fault_by (Idle i j d count) xs k = refl
fault_by (Blocks i j d count) xs k = refl

pub fault_account : (t s : List ℕ) (v : Verdict) (a : Result Account Refusal) (w : Refusal) → a ≡ account_in (Err w) → w ≡ Refusal.NotSound → marked t s ≡ v →
    OneOf (2 ∷ 3 ∷ 4 ∷ 5 ∷ 6 ∷ 7 ∷ 8 ∷ []) (tag_of the_type v) → a ≡ accounted t s
fault_account t s v a w e same m k = e ∙ ap (λ (n : Refusal). account_in (Err n)) same ∙ rw m (fault_by v _ k)

-- An account that is due has the values that are due on paper.
values_due : (o : Outcome) → account_values (account_in o) ≡ values_in o
values_due (Err w) = refl
values_due (Ok xs) = refl

pub told : (t s : List ℕ) (a : Result Account Refusal) → a ≡ accounted t s → (a ≡ accounted t s) × (account_values a ≡ accounted_values t s)
told t s a e = (e, ap account_values e ∙ values_due (account_outcome t s))
