-- An account lent to C: it fits, and nothing is lost of it.
-- Assumes nothing.
use Rattle.std.specs.Prelude.{Ok, Err}
use Rattle.checks.specs.declared.refusals.Refusal.{Refusal}
use mathlib.Core.Path.{◌≡◌, refl, sym, ap}
use mathlib.Core.List.{List}
use Prim.Native.Nat.{ℕ, ◌≤◌, ◌<◌}
use native.Mathlib.Omega.{arith}
use borrow.Author.Tests.{le-leb, lt-leb}
use lib.ListN.{length, take}
use lib.Seq.{sets, length-take-le, take-append_seam}
use Rattle.grid.proofs.Cases.{never}
use Rattle.reader.specs.Walk.{Outcome}
use Rattle.reader.specs.Answer.{reply, kept}
use Rattle.tables.specs.View.{ticket_of, settlement_of}
use Rattle.verdicts.specs.declared.Verdict.{Verdict}
use Rattle.verdicts.specs.declared.Verdict.TheVariants.{Refused, Sound, TariffOverCap, FreeOverCap, WrongPay}
use Rattle.verdicts.specs.declared.Verdict.TheVariants.{GrowerOverHours, PilotOverHours, Idle, Blocks}
use Rattle.verdicts.specs.Values.{verdict_number}
use Rattle.marker.specs.Marked.{marked}
use Rattle.marker.proofs.Marking.{marked_sound_exactly}
use Rattle.marker.proofs.TicketLimits.{limits}
use Rattle.market.specs.Market.{Ticket, Settlement}
use Rattle.accounts.specs.declared.listing.Account.{Account}
use Rattle.accounts.specs.Accounted.{account_numbers, listing, account_in, outcome_by, account_outcome, accounted, ticket_numbers}
use Rattle.accounts.specs.Accounted.{settlement_numbers}
use Rattle.accounts.proofs.ListLaws.{account_length}
use Rattle.c_answers.specs.Accounts.{listed}

-- The outcomes of lending.
module _ (lent list : List ℕ) (count : ℕ) (long : length list ≡ 48) (few : count ≤ 48) where
  taken : length (take count list) ≡ count
  taken = length-take-le count list (omega arith)

  pub too_short : length lent < count →
      (Err Refusal.NoRoom ≡ reply (length lent) (Ok (take count list))) × (lent ≡ kept lent (Ok (take count list)))
  too_short h = rw (taken, lt-leb count (length lent) h) (refl, refl)

  pub lent_whole : (after : List ℕ) → count ≤ length lent → after ≡ sets lent 0 (take count list) →
      (Ok count ≡ reply (length lent) (Ok (take count list))) × (after ≡ kept lent (Ok (take count list)))
  lent_whole after h w = rw (taken, le-leb count (length lent) h) (refl, w)

-- What an account lists is the outcome that it was made of.
listed_same : (o : Outcome) (account : Account) → Ok account ≡ account_in o → o ≡ listed account
listed_same (Err w) account e = never cc
listed_same (Ok xs) account e =
    let same : account ≡ listing xs = cc in
    rw same (ap (λ (ys : List ℕ). Ok ys) (sym (take-append_seam xs _)))

pub account_listed : (account : Account) (t s : List ℕ) → Ok account ≡ accounted t s → account_outcome t s ≡ listed account
account_listed account t s e = listed_same (account_outcome t s) account e

refused_same : (o : Outcome) (w : Refusal) → Err w ≡ account_in o → o ≡ Err w
refused_same (Err v) w e = cc
refused_same (Ok xs) w e = never cc

pub account_refused : (w : Refusal) (t s : List ℕ) → Err w ≡ accounted t s → account_outcome t s ≡ Err w
account_refused w t s e = refused_same (account_outcome t s) w e

-- At most 16 growers and 16 pilots have at most 48 numbers.
by_verdict : (t : Ticket) (x : Settlement) (v : Verdict) → (verdict_number v ≡ 1 → (t.growers ≤ 16) × (t.pilots ≤ 16)) → (xs : List ℕ) →
    outcome_by v (account_numbers t x) ≡ Ok xs → length xs ≤ 48
by_verdict t x (Sound k w) few xs e =
    let same : account_numbers t x ≡ xs = cc in
    omega (arith, ap length same, account_length t x, (few refl).0, (few refl).1)
by_verdict t x (Refused w) few xs e = never cc
by_verdict t x (TariffOverCap i j) few xs e = never cc
by_verdict t x (FreeOverCap i j) few xs e = never cc
by_verdict t x (WrongPay i j) few xs e = never cc
by_verdict t x (GrowerOverHours i) few xs e = never cc
by_verdict t x (PilotOverHours j) few xs e = never cc
by_verdict t x (Idle i j d k) few xs e = never cc
by_verdict t x (Blocks i j d k) few xs e = never cc

pub account_few : (t s xs : List ℕ) → account_outcome t s ≡ Ok xs → length xs ≤ 48
account_few t s xs e =
    by_verdict (ticket_of (ticket_numbers t)) (settlement_of (settlement_numbers t s)) (marked t s) few xs e
  where
    few : verdict_number (marked t s) ≡ 1 → ((ticket_of (ticket_numbers t)).growers ≤ 16) × ((ticket_of (ticket_numbers t)).pilots ≤ 16)
    few v =
        let f = (marked_sound_exactly t s).0 v in
        let l = limits t f.numbers f.is_ticket in
        rw f.is_ticket (l.growers, l.pilots)

fitting : (o : Outcome) → ((xs : List ℕ) → o ≡ Ok xs → length xs ≤ 48) → (account : Account) → Ok account ≡ account_in o →
    account.count ≤ 48
fitting (Err w) h account e = never cc
fitting (Ok xs) h account e = let same : account ≡ listing xs = cc in rw same (h xs refl)

pub account_fits : (account : Account) (t s : List ℕ) → Ok account ≡ accounted t s → account.count ≤ 48
account_fits account t s e = fitting (account_outcome t s) (account_few t s) account e
