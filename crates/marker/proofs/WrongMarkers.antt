-- What the contract of `mark` rules out, in one: markers that pass all, fault all or invent the count, and the paper's four traps.
-- Assumes nothing.
use Rattle.std.specs.Prelude.{Ok, Err}
use Prim.Native.Nat.{ℕ, ◌≤◌}
use mathlib.Core.Path.{◌≡◌, refl, sym, ap, ◌∙◌}
use mathlib.Core.List.{List, [], ◌∷◌}
use native.Mathlib.Omega.{arith}
use Rattle.grid.specs.First.{first}
use Rattle.grid.specs.Sum.{sum}
use Rattle.groups.specs.Groups.{read_from}
use Rattle.reader.specs.Walk.{Outcome, walk, form}
use Rattle.reader.specs.Answer.{unpacked, settlement_read}
use Rattle.tables.specs.View.{growers_of, pilots_of}
use Rattle.verdicts.specs.declared.Values.{Values}
use Rattle.verdicts.specs.declared.Verdict.{Verdict}
use Rattle.verdicts.specs.Tests.{cheapest_of}
use Rattle.verdicts.specs.Values.{verdict_number, verdict_count}
use Rattle.marker.specs.Marked.{settlement_marked, ticket_marked, marked, marked_values}
use Rattle.marker.specs.Examples.{ticket_a, ticket_b, ticket_c, ticket_d}
use Rattle.marker.specs.Traps.{Rules, right, own_hours_are_spares, other_deal_forgotten, at_least_for_greater, cap_zero_is_unlimited}
use Rattle.marker.specs.Traps.{settlement_marked_by, ticket_marked_by, marked_by}
use Rattle.marker.proofs.Examples.{examples}

abbrev pub Marker : Type 0
Marker = List ℕ → List ℕ → Verdict

-- a marker answers as the contract of `mark` says
abbrev pub Meets : Marker → Type 0
Meets f = (ticket settlement : List ℕ) → f ticket settlement ≡ marked ticket settlement

-- On two files a trap leads to one verdict and marking to another, so that a marker with the trap does not meet the contract.
pub record Caught (trap : Rules) (ticket settlement : List ℕ) (trapped due : ℕ) : Type 0 where
  pub under : verdict_number (marked_by trap ticket settlement) ≡ trapped
  pub marking : verdict_number (marked ticket settlement) ≡ due
  pub fails : ¬ Meets (marked_by trap)

pub record WrongMarkers : Type 0 where
  -- a marker that meets the contract does not pass all, nor all that it does not refuse (a refusal has the verdict 0)
  pub not_all_pass : (f : Marker) → Meets f → ¬ ((t s : List ℕ) → verdict_number (f t s) ≤ 1)
  -- it does not fault all
  pub not_all_fault : (f : Marker) → Meets f → ¬ ((t s : List ℕ) → ¬ (verdict_number (f t s) ≡ 1))
  -- its count is not the same for all that it passes
  pub count_not_constant : (f : Marker) → Meets f → (c : ℕ) → ¬ ((t s : List ℕ) → verdict_number (f t s) ≡ 1 → verdict_count (f t s) ≡ c)
  -- nor made up from the ticket and the number of the verdict
  pub count_not_by_ticket : (f : Marker) → Meets f → (c : List ℕ → ℕ → ℕ) →
      ¬ ((t s : List ℕ) → verdict_count (f t s) ≡ c t (verdict_number (f t s)))
  -- by its own rules marking is marking, so that each trap changes nothing but the rule that it names
  pub right_rules : Meets (marked_by right)
  -- "Counting the deal's own hours as spares: D would be blocked."
  pub own_hours : Caught own_hours_are_spares ticket_d (2 ∷ 1 ∷ 1 ∷ 0 ∷ 1 ∷ 5 ∷ []) 8 1
  -- "Forgetting the pair's other deal: C's tariff hour would pass."
  pub other_deal : Caught other_deal_forgotten ticket_c (2 ∷ 1 ∷ 1 ∷ 1 ∷ 0 ∷ 0 ∷ []) 1 8
  -- "'At least' for 'greater': B with pay 3 would be blocked."
  pub at_least : Caught at_least_for_greater ticket_b (2 ∷ 1 ∷ 2 ∷ 0 ∷ 1 ∷ 3 ∷ 0 ∷ 0 ∷ 0 ∷ []) 8 1
  -- "Taking cap 0 as unlimited": a free-deal hour over A's free cap 0 would pass.
  pub cap_zero : Caught cap_zero_is_unlimited ticket_a (2 ∷ 1 ∷ 1 ∷ 1 ∷ 1 ∷ 0 ∷ []) 1 3

right_rules_lem : Meets (marked_by right)
right_rules_lem ticket settlement = of_ticket_lem (unpacked ticket)
  where
    of_settlement : (xs : List ℕ) (o : Outcome) → settlement_marked_by right xs o ≡ settlement_marked xs o
    of_settlement xs (Err w) = refl
    of_settlement xs (Ok ys) = refl

    of_ticket_lem : (o : Outcome) → ticket_marked_by right o settlement ≡ ticket_marked o settlement
    of_ticket_lem (Err w) = refl
    of_ticket_lem (Ok xs) = of_settlement xs (settlement_read (growers_of xs) (pilots_of xs) settlement)

module _ (f : Marker) (meets : Meets f) where
  -- its number and count are those of marking
  module _ (t s : List ℕ) (v : Values) (row : marked_values t s ≡ v) where
    number : verdict_number (f t s) ≡ v.verdict
    number = ap verdict_number (meets t s) ∙ ap (λ (w : Values). w.verdict) row

    count : verdict_count (f t s) ≡ v.count
    count = ap verdict_count (meets t s) ∙ ap (λ (w : Values). w.count) row

  not_all_pass_lem : ¬ ((t s : List ℕ) → verdict_number (f t s) ≤ 1)
  not_all_pass_lem low = omega (arith, low ticket_a (2 ∷ 1 ∷ 1 ∷ 0 ∷ 0 ∷ 0 ∷ []), number ticket_a _ _ examples.a2)

  not_all_fault_lem : ¬ ((t s : List ℕ) → ¬ (verdict_number (f t s) ≡ 1))
  not_all_fault_lem never-sound = never-sound ticket_a _ (number ticket_a _ _ examples.a1)

  count_not_constant_lem : (c : ℕ) → ¬ ((t s : List ℕ) → verdict_number (f t s) ≡ 1 → verdict_count (f t s) ≡ c)
  count_not_constant_lem c same =
      let two = sym (count ticket_a _ _ examples.a1) ∙ same ticket_a _ (number ticket_a _ _ examples.a1) in
      let four = sym (count ticket_b _ _ examples.b1) ∙ same ticket_b _ (number ticket_b _ _ examples.b1) in
      omega arith

  count_not_by_ticket_lem : (c : List ℕ → ℕ → ℕ) → ¬ ((t s : List ℕ) → verdict_count (f t s) ≡ c t (verdict_number (f t s)))
  count_not_by_ticket_lem c same =
      let four = sym (count ticket_b _ _ examples.b2) ∙ same ticket_b _ ∙ ap (c ticket_b) (number ticket_b _ _ examples.b2) in
      let two = sym (count ticket_b _ _ examples.b3) ∙ same ticket_b _ ∙ ap (c ticket_b) (number ticket_b _ _ examples.b3) in
      omega arith

caught : {trap : Rules} {ticket settlement : List ℕ} {trapped due : ℕ} → ¬ (trapped ≡ due) →
    verdict_number (marked_by trap ticket settlement) ≡ trapped → verdict_number (marked ticket settlement) ≡ due →
    Caught trap ticket settlement trapped due
caught {trap} {ticket} {settlement} differ under marking = record {
  under = under;
  marking = marking;
  fails = λ meets. differ (sym under ∙ ap verdict_number (meets ticket settlement) ∙ marking);
}

pub wrong_markers : WrongMarkers
unfolding form walk read_from first sum cheapest_of
wrong_markers = record {
  not_all_pass = not_all_pass_lem;
  not_all_fault = not_all_fault_lem;
  count_not_constant = count_not_constant_lem;
  count_not_by_ticket = count_not_by_ticket_lem;
  right_rules = right_rules_lem;
  own_hours = caught (λ e. omega arith) refl refl;
  other_deal = caught (λ e. omega arith) refl refl;
  at_least = caught (λ e. omega arith) refl refl;
  cap_zero = caught (λ e. omega arith) refl refl;
}
