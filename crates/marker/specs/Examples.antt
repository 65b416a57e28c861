-- Four tickets and ten settlements of them, as bytes, with what marking says of each.
-- Assumes nothing.
use Rattle.std.specs.Prelude.{ℕ, ◌≡◌, List, [], ◌∷◌}
use Rattle.market.specs.declared.Deal.TheVariants.{Tariff, Free}
use Rattle.verdicts.specs.Values.{fault_values, sound_values}
use Rattle.marker.specs.Marked.{marked_values}

abbrev pub ticket_a : List ℕ
ticket_a = 1 ∷ 1 ∷ 1 ∷ 3 ∷ 2 ∷ 1 ∷ 4 ∷ 3 ∷ 0 ∷ 0 ∷ []

abbrev pub ticket_b : List ℕ
ticket_b = 1 ∷ 1 ∷ 2 ∷ 1 ∷ 1 ∷ 1 ∷ 0 ∷ 0 ∷ 0 ∷ 1 ∷ 10 ∷ 0 ∷ 0 ∷ 0 ∷ 1 ∷ 7 ∷ []

abbrev pub ticket_c : List ℕ
ticket_c = 1 ∷ 1 ∷ 1 ∷ 1 ∷ 1 ∷ 1 ∷ 5 ∷ 5 ∷ 1 ∷ 12 ∷ []

abbrev pub ticket_d : List ℕ
ticket_d = 1 ∷ 1 ∷ 1 ∷ 1 ∷ 2 ∷ 0 ∷ 0 ∷ 0 ∷ 2 ∷ 10 ∷ []

-- each with its verdict, grower, pilot, deal and count, or sound with its count and worth
pub record Examples : Type 0 where
  pub a1 : marked_values ticket_a (2 ∷ 1 ∷ 1 ∷ 1 ∷ 0 ∷ 0 ∷ []) ≡ sound_values 2 0
  pub a2 : marked_values ticket_a (2 ∷ 1 ∷ 1 ∷ 0 ∷ 0 ∷ 0 ∷ []) ≡ fault_values 7 0 0 Tariff 1
  pub a3 : marked_values ticket_a (2 ∷ 1 ∷ 1 ∷ 2 ∷ 0 ∷ 0 ∷ []) ≡ fault_values 2 0 0 Tariff 0
  pub a4 : marked_values ticket_a (2 ∷ 1 ∷ 1 ∷ 1 ∷ 0 ∷ 5 ∷ []) ≡ fault_values 4 0 0 Free 0
  pub b1 : marked_values ticket_b (2 ∷ 1 ∷ 2 ∷ 0 ∷ 1 ∷ 3 ∷ 0 ∷ 0 ∷ 0 ∷ []) ≡ sound_values 4 10
  pub b2 : marked_values ticket_b (2 ∷ 1 ∷ 2 ∷ 0 ∷ 1 ∷ 4 ∷ 0 ∷ 0 ∷ 0 ∷ []) ≡ fault_values 8 0 1 Free 4
  pub b3 : marked_values ticket_b (2 ∷ 1 ∷ 2 ∷ 0 ∷ 0 ∷ 0 ∷ 0 ∷ 1 ∷ 0 ∷ []) ≡ fault_values 8 0 0 Free 2
  pub c1 : marked_values ticket_c (2 ∷ 1 ∷ 1 ∷ 1 ∷ 0 ∷ 0 ∷ []) ≡ fault_values 8 0 0 Free 2
  pub c2 : marked_values ticket_c (2 ∷ 1 ∷ 1 ∷ 0 ∷ 1 ∷ 12 ∷ []) ≡ sound_values 2 0
  pub d1 : marked_values ticket_d (2 ∷ 1 ∷ 1 ∷ 0 ∷ 1 ∷ 5 ∷ []) ≡ sound_values 2 10
