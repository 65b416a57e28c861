-- Two refusals are one where their numbers are.
-- Assumes nothing.
use Prim.Native.Nat.{ℕ}
use mathlib.Core.Path.{◌≡◌, refl, sym, ap, ◌∙◌}
use mathlib.Core.Bool.{cond}
use mathlib.Core.Logic.{◌⊎◌, ⊎_elim, inl, inr}
use lib.Dec.{eqb}
use Rattle.grid.proofs.Cases.{eq_or_ne}
use Rattle.checks.specs.declared.refusals.Refusal.{Refusal}
use Rattle.checks.specs.Refusals.{number_of}

-- The refusal that has a number.
refusal_of : ℕ → Refusal
refusal_of n =
    cond (eqb n 1) Refusal.Ends (
    cond (eqb n 2) Refusal.TooLong (
    cond (eqb n 3) Refusal.Padded (
    cond (eqb n 4) Refusal.WrongKind (
    cond (eqb n 5) Refusal.PartiesOutOfRange (
    cond (eqb n 6) Refusal.HoursAboveLimit (
    cond (eqb n 7) Refusal.AboveLimit (
    cond (eqb n 8) Refusal.AmountWithoutCap (
    cond (eqb n 9) Refusal.NumbersLeft (
    cond (eqb n 10) Refusal.NoRoom (
    cond (eqb n 11) Refusal.SettlementEnds (
    cond (eqb n 12) Refusal.SettlementTooLong (
    cond (eqb n 13) Refusal.SettlementPadded (
    cond (eqb n 14) Refusal.SettlementWrongKind (
    cond (eqb n 15) Refusal.OtherParties (
    cond (eqb n 16) Refusal.SettlementNumbersLeft (
    cond (eqb n 17) Refusal.NotSound (
    cond (eqb n 18) Refusal.CapWithoutHours (
    cond (eqb n 19) Refusal.NoParty (
    cond (eqb n 20) Refusal.AgainstLimits (
    cond (eqb n 21) Refusal.NotWindows (
    Refusal.BadWindow)))))))))))))))))))))

of_its_number : (w : Refusal) → refusal_of (number_of w) ≡ w
unfolding refusal_of
of_its_number Refusal.Ends = refl
of_its_number Refusal.TooLong = refl
of_its_number Refusal.Padded = refl
of_its_number Refusal.WrongKind = refl
of_its_number Refusal.PartiesOutOfRange = refl
of_its_number Refusal.HoursAboveLimit = refl
of_its_number Refusal.AboveLimit = refl
of_its_number Refusal.AmountWithoutCap = refl
of_its_number Refusal.NumbersLeft = refl
of_its_number Refusal.NoRoom = refl
of_its_number Refusal.SettlementEnds = refl
of_its_number Refusal.SettlementTooLong = refl
of_its_number Refusal.SettlementPadded = refl
of_its_number Refusal.SettlementWrongKind = refl
of_its_number Refusal.OtherParties = refl
of_its_number Refusal.SettlementNumbersLeft = refl
of_its_number Refusal.NotSound = refl
of_its_number Refusal.CapWithoutHours = refl
of_its_number Refusal.NoParty = refl
of_its_number Refusal.AgainstLimits = refl
of_its_number Refusal.NotWindows = refl
of_its_number Refusal.BadWindow = refl

pub same_number : (w v : Refusal) → number_of w ≡ number_of v → w ≡ v
same_number w v e = sym (of_its_number w) ∙ ap refusal_of e ∙ of_its_number v

pub refusal_eq_or_ne : (w v : Refusal) → (w ≡ v) ⊎ (w ≡ v → ⊥)
refusal_eq_or_ne w v = ⊎_elim
    (λ e. inl (same_number w v e))
    (λ o. inr (λ e. o (ap number_of e)))
    (eq_or_ne (number_of w) (number_of v))
