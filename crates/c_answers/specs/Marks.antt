-- The numbers that C gets for a verdict and for its worth, and how they are read.
-- Assumes nothing.
use Rattle.std.specs.Prelude.{ℕ, ◌+◌, ◌*◌, ◌/◌, ◌%◌, ◌^◌, ◌≡◌}
use Rattle.verdicts.specs.declared.Values.{Values}
use Rattle.marker.specs.Verdict.{deal_number}

-- Six fields, the lowest first. A field that a verdict or a refusal has no use for is 0.
abbrev pub mark_number : Values → ℕ
mark_number v =
    v.verdict + v.grower * 2 ^ 8 + v.pilot * 2 ^ 16 + deal_number v.deal * 2 ^ 24 + v.count * 2 ^ 32 + v.refusal * 2 ^ 56

-- Each field of a number is one of the values.
pub record Tells (number : ℕ) (v : Values) : Type 0 where
  pub verdict : number % 2 ^ 8 ≡ v.verdict
  pub grower : number / 2 ^ 8 % 2 ^ 8 ≡ v.grower
  pub pilot : number / 2 ^ 16 % 2 ^ 8 ≡ v.pilot
  pub deal : number / 2 ^ 24 % 2 ^ 8 ≡ deal_number v.deal
  pub count : number / 2 ^ 32 % 2 ^ 24 ≡ v.count
  pub refusal : number / 2 ^ 56 ≡ v.refusal

-- The number that C gets for a worth: the worth as it is, refusal k as k times a number that is greater than every worth.
abbrev pub worth_end : ℕ
worth_end = 2 ^ 56

abbrev pub worth_number : Values → ℕ
worth_number v = v.worth + v.refusal * worth_end

-- Each part of such a number is one of the values.
pub record TellsWorth (number : ℕ) (v : Values) : Type 0 where
  pub worth : number % worth_end ≡ v.worth
  pub refusal : number / worth_end ≡ v.refusal
