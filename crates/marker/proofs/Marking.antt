-- Marking says sound exactly when the files are a ticket and a sound settlement of it, and then the count is 2nm. And what the code
-- reads and cuts is what the definition reads.
-- Assumes nothing.
use Rattle.checks.specs.declared.refusals.Refusal.{Refusal}
use Rattle.std.specs.Prelude.{Ok, Err}
use Prim.Native.Nat.{ℕ, ◌*◌, ◌≤◌}
use mathlib.Core.Path.{◌≡◌, refl, sym, ap, ◌∙◌}
use mathlib.Core.Logic.{◌↔◌}
use mathlib.Core.List.{List}
use native.Mathlib.Omega.{arith}
use lib.ListN.{length, take}
use Rattle.grid.proofs.Cases.{never}
use Rattle.market.specs.Market as market
use Rattle.market.specs.Totals.{promised_worth}
use Rattle.market.specs.WithoutStandby.{NoStandby, SoundWithoutStandby}
use Rattle.market.proofs.WithoutStandby.{sound_without_standby_iff}
use Rattle.reader.specs.Walk.{Outcome}
use Rattle.reader.specs.Answer.{unpacked, settlement_read, reply, kept}
use Rattle.reader.proofs.Facts.{unpacked_shape, settlement_shape, settlement_few, reply_done, reply_refused}
use Rattle.verdicts.specs.declared.Verdict.{Verdict}
use Rattle.verdicts.specs.declared.Verdict.TheVariants.{Refused, Sound}
use Rattle.tables.specs.View.{growers_of, pilots_of, ticket_of, settlement_of}
use Rattle.verdicts.specs.Values.{verdict_number}
use Rattle.marker.specs.Verdict.{judged}
use Rattle.marker.specs.Marked.{settlement_marked, ticket_marked, marked, SoundFiles}
use Rattle.marker.proofs.Soundness.{sound_exactly, sound_number}

no_standby : (xs : List ℕ) → NoStandby (ticket_of xs)
no_standby xs = record { grower = λ i. refl; pilot = λ j. refl }

-- A file has no standby, so that a settlement of its ticket is sound exactly by the words of docs/FORMAT.md.
pub files_without_standby : (xs : List ℕ) (x : market.Settlement) → market.Sound (ticket_of xs) x ↔ SoundWithoutStandby (ticket_of xs) x
files_without_standby xs x = sound_without_standby_iff (ticket_of xs) x (no_standby xs)

settlement_sound : (t s xs : List ℕ) (o : Outcome) → unpacked t ≡ Ok xs → settlement_read (growers_of xs) (pilots_of xs) s ≡ o →
    verdict_number (settlement_marked xs o) ≡ 1 → SoundFiles t s
settlement_sound t s xs (Err w) e f v = never v
settlement_sound t s xs (Ok ys) e f v = record {
  numbers = xs;
  answer = ys;
  is_ticket = e;
  is_settlement = f;
  sound = (sound_number (ticket_of xs) (settlement_of ys) (no_standby xs)).0 v;
}

ticket_sound : (t s : List ℕ) (o : Outcome) → unpacked t ≡ o → verdict_number (ticket_marked o s) ≡ 1 → SoundFiles t s
ticket_sound t s (Err w) e v = never v
ticket_sound t s (Ok xs) e v = settlement_sound t s xs (settlement_read (growers_of xs) (pilots_of xs) s) e refl v

-- a sound settlement has the verdict sound, with all deals counted and its worth
pub sound_files_marked : (t s : List ℕ) (f : SoundFiles t s) → marked t s ≡ Sound (2 * (growers_of f.numbers * pilots_of f.numbers))
    (promised_worth (ticket_of f.numbers) (settlement_of f.answer).hours)
sound_files_marked t s f =
    rw (f.is_ticket, f.is_settlement)
    ((sound_exactly (ticket_of f.numbers) (settlement_of f.answer) (no_standby f.numbers)).1 f.sound)

pub marked_sound_exactly : (t s : List ℕ) → (verdict_number (marked t s) ≡ 1) ↔ SoundFiles t s
marked_sound_exactly t s = (λ v. ticket_sound t s (unpacked t) refl v, λ f. ap verdict_number (sound_files_marked t s f))

-- What the code reads.

-- the settlement's list, of a ticket xs of at most 16 growers and pilots
settlement_room : (n m : ℕ) (s ys : List ℕ) → n ≤ 16 → m ≤ 16 → settlement_read n m s ≡ Ok ys → length ys ≤ 771
settlement_room n m s ys hn hm e = settlement_few n m ys (settlement_shape n m s ys e) hn hm

pub refused_answer : (xs s zeros : List ℕ) (n m : ℕ) (w : Refusal) → n ≡ growers_of xs → m ≡ pilots_of xs → n ≤ 16 → m ≤ 16 → length zeros ≡ 771 →
    Err w ≡ reply (length zeros) (settlement_read n m s) →
    Refused w ≡ settlement_marked xs (settlement_read (growers_of xs) (pilots_of xs) s)
refused_answer xs s zeros n m w en em hn hm long e =
    let f = reply_refused (length zeros) (settlement_read n m s) w (λ ys h. omega (arith, long, settlement_room n m s ys hn hm h)) e in
    rw (← en, ← em, f)

pub answer_is : (s zeros list : List ℕ) (n m count : ℕ) → Ok count ≡ reply (length zeros) (settlement_read n m s) →
    list ≡ take count (kept zeros (settlement_read n m s)) → settlement_read n m s ≡ Ok list
answer_is s zeros list n m count e cut =
    let d = reply_done (settlement_read n m s) zeros count e in d.1 ∙ ap (λ (xs : List ℕ). Ok xs) (sym (cut ∙ d.2))

pub answer_sized : (xs s list : List ℕ) (n m : ℕ) → n ≡ growers_of xs → m ≡ pilots_of xs → settlement_read n m s ≡ Ok list →
    (growers_of list ≡ growers_of xs) × (pilots_of list ≡ pilots_of xs)
answer_sized xs s list n m en em e = let a = settlement_shape n m s list e in (a.growers ∙ en, a.pilots ∙ em)

pub judged_answer : (xs s list : List ℕ) (n m : ℕ) (v : Verdict) → n ≡ growers_of xs → m ≡ pilots_of xs →
    settlement_read n m s ≡ Ok list → v ≡ judged (ticket_of xs) (settlement_of list) →
    v ≡ settlement_marked xs (settlement_read (growers_of xs) (pilots_of xs) s)
judged_answer xs s list n m v en em e f = rw (← en, ← em, e) f

-- the ticket's list
pub refused_ticket : (t s zeros : List ℕ) (w : Refusal) → length zeros ≡ 1315 → Err w ≡ reply (length zeros) (unpacked t) →
    Refused w ≡ marked t s
refused_ticket t s zeros w long e =
    rw (reply_refused (length zeros) (unpacked t) w (λ xs f. omega (arith, (unpacked_shape t xs f).few, long)) e)

pub unpacked_is : (s zeros list : List ℕ) (count : ℕ) → Ok count ≡ reply (length zeros) (unpacked s) →
    list ≡ take count (kept zeros (unpacked s)) → unpacked s ≡ Ok list
unpacked_is s zeros list count e cut = let d = reply_done (unpacked s) zeros count e in d.1 ∙ ap (λ (xs : List ℕ). Ok xs) (sym (cut ∙ d.2))

pub marked-ticket : (t s list : List ℕ) (v : Verdict) → unpacked t ≡ Ok list →
    v ≡ settlement_marked list (settlement_read (growers_of list) (pilots_of list) s) → v ≡ marked t s
marked-ticket t s list v e f = rw e f

pub few_parties : (t list : List ℕ) → unpacked t ≡ Ok list → (growers_of list ≤ 16) × (pilots_of list ≤ 16)
few_parties t list e = let s = unpacked_shape t list e in (s.growers.1, s.pilots.1)
