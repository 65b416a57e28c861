-- Every verdict of the marker and its worth fit their numbers, so the numbers tell them: `mark_told`, `worth_told`.
-- Assumes nothing.
use mathlib.Core.List.{List}
use Prim.Native.Nat.{ℕ, ◌<◌}
use native.Mathlib.Omega.{arith}
use Rattle.verdicts.specs.declared.Values.{Values}
use Rattle.verdicts.specs.Values.{Bounded}
use Rattle.marker.specs.Marked.{marked_values}
use Rattle.marker.proofs.DealNumbers.{number_small}
use Rattle.marker.proofs.ValueBounds.{marked_bounded, worth_bounded}
use Rattle.c_answers.specs.Marks.{mark_number, Tells, worth_end, worth_number, TellsWorth}

-- Small values are told by their number.
number_tells : (v : Values) → Bounded v → Tells (mark_number v) v
number_tells v b =
    let d = number_small v.deal in
    record {
      verdict = omega arith;
      grower = omega arith;
      pilot = omega arith;
      deal = omega arith;
      count = omega arith;
      refusal = omega arith;
    }

-- Nothing is lost: each field of the number that C gets is a value of the verdict.
pub mark_told : (t s : List ℕ) → Tells (mark_number (marked_values t s)) (marked_values t s)
mark_told t s = number_tells (marked_values t s) (marked_bounded t s)

worth_tells : (v : Values) → v.worth < worth_end → TellsWorth (worth_number v) v
worth_tells v small = record { worth = omega arith; refusal = omega arith }

pub worth_small : (t s : List ℕ) → (marked_values t s).worth < worth_end
worth_small t s = omega (arith, worth_bounded t s)

pub worth_told : (t s : List ℕ) → TellsWorth (worth_number (marked_values t s)) (marked_values t s)
worth_told t s = worth_tells (marked_values t s) (worth_small t s)
