-- An account that is not refused hands out what the hours of its settlement are worth, and no more.
-- Assumes nothing.
use Rattle.std.specs.Prelude.{Result, Ok}
use Rattle.checks.specs.declared.refusals.Refusal.{Refusal}
use Prim.Native.Nat.{ℕ, ◌+◌, ◌*◌}
use mathlib.Core.Path.{◌≡◌, refl, sym, ap₂, ◌∙◌}
use mathlib.Core.List.{List}
use Rattle.grid.specs.Sum.{sum}
use Rattle.grid.proofs.Cases.{never}
use Rattle.grid.proofs.Sums.{sum_same}
use Rattle.market.specs.Market.{Ticket, Settlement, Feasible}
use Rattle.market.specs.Accounts.{grower_gain, pilot_pay, worth_of_hours}
use Rattle.market.proofs.AccountTotals.{account_total}
use Rattle.tables.specs.View.{ticket_of, settlement_of}
use Rattle.verdicts.specs.declared.Verdict.{Verdict}
use Rattle.verdicts.specs.declared.Verdict.TheVariants.{Refused, Sound, TariffOverCap, FreeOverCap, WrongPay}
use Rattle.verdicts.specs.declared.Verdict.TheVariants.{GrowerOverHours, PilotOverHours, Idle, Blocks}
use Rattle.verdicts.specs.Values.{verdict_number}
use Rattle.marker.specs.Marked.{marked}
use Rattle.marker.proofs.Marking.{marked_sound_exactly}
use Rattle.accounts.specs.declared.listing.Account.{Account}
use Rattle.accounts.specs.Accounted.{account_numbers, gain_at, pay_at, padded, listing, account_in, outcome_by}
use Rattle.accounts.specs.Accounted.{ticket_numbers, settlement_numbers, accounted}
use Rattle.accounts.proofs.ListLaws.{account_length, gain_listed_lem, pay_listed_lem}

-- the gains and pays of a list are together what the hours of a settlement are worth
abbrev pub HandsOut : Ticket → Settlement → List ℕ → Type 0
HandsOut t x list = sum (gain_at list) t.growers + sum (pay_at list t.growers) t.pilots ≡ worth_of_hours t x.hours

numbers_hand_out : (t : Ticket) (x : Settlement) → Feasible t x → HandsOut t x (padded (account_numbers t x))
numbers_hand_out t x f =
    ap₂ ◌+◌ (sum_same _ (grower_gain t x) t.growers (gain_listed_lem t x)) (sum_same _ (pilot_pay t x) t.pilots (pay_listed_lem t x))
    ∙ account_total t x f

-- an account by a verdict that is not refused, of a settlement that is feasible if the verdict is sound
by_verdict : (t : Ticket) (x : Settlement) (v : Verdict) (account : Account) → (verdict_number v ≡ 1 → Feasible t x) →
    account_in (outcome_by v (account_numbers t x)) ≡ Ok account →
    (account.count ≡ t.growers + 2 * t.pilots) × HandsOut t x account.list
by_verdict t x (Refused w) count f e = never cc
by_verdict t x (Sound k w) account f e =
    let same : listing (account_numbers t x) ≡ account = cc in
    rw (← same) (account_length t x, numbers_hand_out t x (f refl))
by_verdict t x (TariffOverCap i j) count f e = never cc
by_verdict t x (FreeOverCap i j) count f e = never cc
by_verdict t x (WrongPay i j) count f e = never cc
by_verdict t x (GrowerOverHours i) count f e = never cc
by_verdict t x (PilotOverHours j) count f e = never cc
by_verdict t x (Idle i j d k) count f e = never cc
by_verdict t x (Blocks i j d k) count f e = never cc

-- what `account` returns, if it is not a refusal
pub account_worth : (ticket settlement : List ℕ) (r : Result Account Refusal) (account : Account) → r ≡ accounted ticket settlement →
    r ≡ Ok account → let t = ticket_of (ticket_numbers ticket) in
    (account.count ≡ t.growers + 2 * t.pilots) × HandsOut t (settlement_of (settlement_numbers ticket settlement)) account.list
account_worth ticket settlement r account e done =
    by_verdict (ticket_of (ticket_numbers ticket)) (settlement_of (settlement_numbers ticket settlement)) (marked ticket settlement) account
    feasible (sym e ∙ done)
  where
    feasible : verdict_number (marked ticket settlement) ≡ 1 →
        Feasible (ticket_of (ticket_numbers ticket)) (settlement_of (settlement_numbers ticket settlement))
    feasible v = let f = (marked_sound_exactly ticket settlement).0 v in rw (f.is_ticket, f.is_settlement) f.sound.feasible
