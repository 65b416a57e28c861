-- What is wrong with a number of the settlement of a ticket with n growers and m pilots.
use Rattle.std.specs.Prelude.{ℕ, zero, suc, ◌^◌, ltb, eqb, Ok}
use Rattle.groups.specs.Groups.{groups}
use Rattle.checks.specs.Refusals.{settlement_refusals, Checked, must, first}

-- What is wrong with x at a place. A pair's numbers have no range.
abbrev pub place_fault : ℕ → ℕ → ℕ → ℕ → Checked
place_fault n m zero x = must (eqb x 2) settlement_refusals.kind
place_fault n m (suc zero) x = must (eqb x n) settlement_refusals.parties
place_fault n m (suc (suc zero)) x = must (eqb x m) settlement_refusals.parties
place_fault n m (suc (suc (suc p))) x = Ok tt

-- First, a number of too many groups: in bytes it cannot be met here, in a list it is refused as its second byte would be.
abbrev pub settlement_fault : ℕ → ℕ → ℕ → ℕ → Checked
settlement_fault n m p x = first (must (ltb x (128 ^ groups)) settlement_refusals.long) (place_fault n m p x)
