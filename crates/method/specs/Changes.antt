-- What the code does to the square of held hours.
-- Assumes nothing.
use Rattle.std.specs.Prelude.{ℕ, ◌+◌, ◌≤◌, ◌<◌, ◌≡◌, ◌⊎◌, List, [], get_or, set, length}
use Rattle.market.specs.Method.{Slot}
use Rattle.offers.specs.declared.Agreed.{Agreed}
use Rattle.method.specs.View.{agreed_at, hours_held}

-- a square of 16 rows of 16 pairs
pub record Full (held : List (List Agreed)) : Type 0 where
  pub high : length held ≡ 16
  pub wide : (i : ℕ) → i < 16 → length (get_or held i []) ≡ 16

-- the square with another pair in one cell
abbrev pub put_cell : List (List Agreed) → ℕ → ℕ → Agreed → List (List Agreed)
put_cell held i j agreed = set held i (set (get_or held i []) j agreed)

-- a pair that holds x more hours in one way
pub record MoreHeld (agreed agreed' : Agreed) (q : Slot) (x : ℕ) : Type 0 where
  pub there : hours_held agreed' q ≡ hours_held agreed q + x
  pub rest : (r : Slot) → (r ≡ q) ⊎ (hours_held agreed' r ≡ hours_held agreed r)

-- a pair whose new hours have become old
abbrev pub aged_pair : Agreed → Agreed
aged_pair agreed = record {
  by_tariff = agreed.by_tariff;
  old_free = agreed.old_free + agreed.new_free;
  new_free = 0;
}

-- the new hours of pilot j and the first k growers have become old
pub record Aged (held held' : List (List Agreed)) (j k : ℕ) : Type 0 where
  pub past : (i : ℕ) → i < k → agreed_at held' i j ≡ aged_pair (agreed_at held i j)
  pub ahead : (i : ℕ) → k ≤ i → agreed_at held' i j ≡ agreed_at held i j
  pub beside : (i l : ℕ) → (l ≡ j → ⊥) → agreed_at held' i l ≡ agreed_at held i l
