-- Every number of a square of terms is below 65536, since it has 16 bits: so the ticket fits.
-- Assumes nothing.
use Prim.Native.Nat.{ℕ, zero, suc, ◌≤◌, ◌<◌}
use mathlib.Core.Path.{refl}
use mathlib.Core.List.{List, [], ◌∷◌}
use lib.Dec.{lit<}
use mir.Val.{Val}
use denote.Laws.{Is}
use denote.Shadow.{shadow}
use denote.Array.{Array, each}
use denote.Struct.Declared.{row}
use Rattle.offers.specs.declared.Terms.{Terms}
use Rattle.method.specs.View.{no_terms, terms_in, terms_at, ticket}
use Rattle.method.specs.State.{Fit}
use Rattle.offers.specs.contracts.Terms.{the_type}

pub record Small (terms : Terms) : Type 0 where
  pub tariff_cap : terms.tariff_cap < 65536
  pub tariff_pay : terms.tariff_pay < 65536
  pub free_cap : terms.free_cap < 65536
  pub joint_gain : terms.joint_gain < 65536

none_small : Small no_terms
none_small = record { tariff_cap = lit< tt; tariff_pay = lit< tt; free_cap = lit< tt; joint_gain = lit< tt }

pair_small : (terms : Terms) (vs : List Val) → Is (row the_type) terms vs → Small terms
pair_small terms vs p = let fields = p.1.1 in record {
  tariff_cap = fields.0.1;
  tariff_pay = fields.1.1.0.1;
  free_cap = fields.1.1.1.0.1;
  joint_gain = fields.1.1.1.1.0.1;
}

row_small : (r : List Terms) (us : List Val) → shadow (each Terms (row the_type).own_val r us) → (j : ℕ) → Small (terms_in r j)
row_small [] us s j = none_small
row_small (x ∷ r) [] s j = absurd s
row_small (x ∷ r) (u ∷ us) s zero = pair_small x (u ∷ []) s.0
row_small (x ∷ r) (u ∷ us) s (suc j) = row_small r us s.1 j

rows_small : (q : List (List Terms)) (us : List Val) → shadow (each (List Terms) (Array (row the_type) 16).own_val q us) → (i j : ℕ) →
    Small (terms_at q i j)
rows_small [] us s i j = none_small
rows_small (r ∷ q) [] s i j = absurd s
rows_small (r ∷ q) (u ∷ us) s zero j = row_small r s.0.0 s.0.1.1 j
rows_small (r ∷ q) (u ∷ us) s (suc i) j = rows_small q us s.1 i j

pub fits : (n m : ℕ) (grower_hours pilot_hours : List ℕ) (terms : List (List Terms)) (vs : List Val) → n ≤ 16 → m ≤ 16 →
    Is (Array (Array (row the_type) 16) 16) terms vs → Fit (ticket n m grower_hours pilot_hours terms)
fits n m grower_hours pilot_hours terms vs hn hm p =
    let small = rows_small terms p.0 p.1.1 in
    record {
      growers = hn;
      pilots = hm;
      tariff_cap = λ i j. (small i j).tariff_cap;
      free_cap = λ i j. (small i j).free_cap;
      tariff_pay = λ i j. (small i j).tariff_pay;
      joint_gain = λ i j. (small i j).joint_gain;
      grower_standby = λ i. refl;
      pilot_standby = λ j. refl;
    }
