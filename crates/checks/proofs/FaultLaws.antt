-- What is known of a number that has no fault.
use mathlib.Core.Path.{◌≡◌, refl}
use mathlib.Core.Bool.{Bool, true, false, cond}
use Prim.Native.Nat.{ℕ, zero, suc, ◌^◌, ◌≤◌, ◌<◌}
use native.Mathlib.Omega.{arith}
use borrow.Author.Tests.{leb-true, eqb-true, lt-ltb, ltb-true, le-leb, eq-eqb}
use lib.Dec.{leb, ltb, eqb}
use Rattle.groups.specs.Groups.{groups}
use Rattle.checks.specs.declared.ticket.Field.{Field}
use Rattle.checks.specs.declared.ticket.Field.TheVariants.{Kind, Growers, Pilots, Hours, TariffCap, TariffGain, TariffPay, FreeCap}
use Rattle.checks.specs.declared.ticket.Field.TheVariants.{FreeGain}
use Rattle.std.specs.Prelude.{Ok, Err, is_ok}
use Rattle.checks.specs.declared.refusals.Refusal.{Refusal}
use Rattle.checks.specs.Refusals.{ticket_refusals, settlement_refusals}
use Rattle.checks.specs.Refusals.{Checked, must, first}
use Rattle.checks.specs.TicketFaults.{party_fault, zero_cap_fault, amount_fault, no_hours_fault, cap_fault, fault_of}
use Rattle.checks.specs.SettlementFaults.{place_fault, settlement_fault}
use Rattle.grid.proofs.Cases.{never}

-- What is found to pass passes.
pub is_ok-true : (c : Checked) → is_ok c ≡ true → c ≡ Ok tt
is_ok-true (Ok _) e = refl
is_ok-true (Err w) e = never cc

-- A refusal that is none is passed over.
pub first-none : (v w : Checked) → v ≡ Ok tt → w ≡ first v w
first-none (Ok _) w h = refl
first-none (Err v) w h = never cc

-- A test that must hold and whose refusal is not met holds.
pub must_holds : (t : Bool) (w : Refusal) → must t w ≡ Ok tt → t ≡ true
must_holds true w e = refl
must_holds false w e = never cc

pub party_range : (x : ℕ) → party_fault ticket_refusals.parties x ≡ Ok tt → (1 ≤ x) × (x ≤ 16)
party_range x e = go (leb 1 x) refl e
  where
    go : (t : Bool) → leb 1 x ≡ t → cond t (must (leb x 16) ticket_refusals.parties) (Err ticket_refusals.parties) ≡ Ok tt → (1 ≤ x) × (x ≤ 16)
    go true l e = (leb-true 1 x l, leb-true x 16 (must_holds (leb x 16) ticket_refusals.parties e))
    go false l e = never cc

pub amount_range : (cap x : ℕ) → amount_fault cap x ≡ Ok tt → x ≤ 500
amount_range cap x e = go (leb x 500) refl e
  where
    go : (t : Bool) → leb x 500 ≡ t → first (must t Refusal.AboveLimit) (zero_cap_fault cap x) ≡ Ok tt → x ≤ 500
    go true l e = leb-true x 500 l
    go false l e = never cc

pub amount_none : (cap x : ℕ) → amount_fault cap x ≡ Ok tt → cap ≡ 0 → x ≡ 0
amount_none cap x e z = go (leb x 500) (rw z at e)
  where
    go : (t : Bool) → first (must t Refusal.AboveLimit) (must (eqb x 0) Refusal.AmountWithoutCap) ≡ Ok tt → x ≡ 0
    go true e = eqb-true x 0 (must_holds (eqb x 0) Refusal.AmountWithoutCap e)
    go false e = never cc

pub cap_range : (none : Bool) (x : ℕ) → cap_fault none x ≡ Ok tt → x ≤ 60
cap_range none x e = go (leb x 60) refl e
  where
    go : (t : Bool) → leb x 60 ≡ t → first (must t Refusal.AboveLimit) (no_hours_fault none x) ≡ Ok tt → x ≤ 60
    go true l e = leb-true x 60 l
    go false l e = never cc

pub cap-none : (none : Bool) (x : ℕ) → cap_fault none x ≡ Ok tt → none ≡ true → x ≡ 0
cap-none none x e n = go (leb x 60) (rw n at e)
  where
    go : (t : Bool) → first (must t Refusal.AboveLimit) (must (eqb x 0) Refusal.CapWithoutHours) ≡ Ok tt → x ≡ 0
    go true e = eqb-true x 0 (must_holds (eqb x 0) Refusal.CapWithoutHours e)
    go false e = never cc

-- A number within these ranges has no fault.
pub amount_clear : (cap x : ℕ) → x ≤ 500 → (cap ≡ 0 → x ≡ 0) → amount_fault cap x ≡ Ok tt
amount_clear cap x h z = rw (le-leb x 500 h) (go (eqb cap 0) refl)
  where
    go : (t : Bool) → eqb cap 0 ≡ t → cond t (must (eqb x 0) Refusal.AmountWithoutCap) (Ok tt) ≡ Ok tt
    go true e = rw (eq-eqb x 0 (z (eqb-true cap 0 e)))
    go false e = refl

pub cap_clear : (none : Bool) (x : ℕ) → x ≤ 60 → (none ≡ true → x ≡ 0) → cap_fault none x ≡ Ok tt
cap_clear true x h z = rw (le-leb x 60 h, eq-eqb x 0 (z refl))
cap_clear false x h z = rw (le-leb x 60 h)

-- The largest number of a field.
abbrev pub most_of : Field → ℕ
most_of Kind = 1
most_of Growers = 16
most_of Pilots = 16
most_of Hours = 60
most_of TariffCap = 60
most_of TariffGain = 500
most_of TariffPay = 500
most_of FreeCap = 60
most_of FreeGain = 500

pub field_range : (f : Field) (cap : ℕ) (none : Bool) (x : ℕ) → fault_of f cap none x ≡ Ok tt → x ≤ most_of f
field_range Kind cap none x e = omega (arith, eqb-true x 1 (must_holds (eqb x 1) ticket_refusals.kind e))
field_range Growers cap none x e = (party_range x e).1
field_range Pilots cap none x e = (party_range x e).1
field_range Hours cap none x e = leb-true x 60 (must_holds (leb x 60) Refusal.HoursAboveLimit e)
field_range TariffCap cap none x e = cap_range none x e
field_range TariffGain cap none x e = amount_range cap x e
field_range TariffPay cap none x e = amount_range cap x e
field_range FreeCap cap none x e = cap_range none x e
field_range FreeGain cap none x e = amount_range cap x e

-- A settlement's number has no fault exactly where it has few groups and no fault at its place. Pairs have none there.
pub settlement_passes_lem : (n m p x : ℕ) → settlement_fault n m p x ≡ Ok tt → (x < 128 ^ groups) × (place_fault n m p x ≡ Ok tt)
settlement_passes_lem n m p x e = go (ltb x (128 ^ groups)) refl e
  where
    go : (t : Bool) → ltb x (128 ^ groups) ≡ t → first (must t settlement_refusals.long) (place_fault n m p x) ≡ Ok tt →
        (x < 128 ^ groups) × (place_fault n m p x ≡ Ok tt)
    go true l e = (ltb-true x (128 ^ groups) l, e)
    go false l e = never cc

pub settlement_clear : (n m p x : ℕ) → x < 128 ^ groups → place_fault n m p x ≡ Ok tt → settlement_fault n m p x ≡ Ok tt
settlement_clear n m p x h e = rw (lt-ltb x (128 ^ groups) h) e

pub pair_fault_lem : (n m p x : ℕ) → 3 ≤ p → place_fault n m p x ≡ Ok tt
pair_fault_lem n m zero x h = absurd (omega arith)
pair_fault_lem n m (suc zero) x h = absurd (omega arith)
pair_fault_lem n m (suc (suc zero)) x h = absurd (omega arith)
pair_fault_lem n m (suc (suc (suc p))) x h = refl
