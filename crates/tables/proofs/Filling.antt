-- Reading the quantities and the hours of a list.
-- Assumes nothing.
use Prim.Native.Nat.{ℕ, ◌+◌, ◌*◌, ◌<◌, min}
use mathlib.Core.Path.{◌≡◌, sym, ap, ◌∙◌}
use mathlib.Core.List.{List}
use native.Mathlib.Nat.{mul-add}
use native.Mathlib.Omega.{arith}
use lib.ListN.{get_or}
use Rattle.grid.specs.Grid.{Grid}
use Rattle.grid.specs.Fill.{FilledOver, FilledRow}
use Rattle.tables.specs.declared.Quantity.{Quantity}
use Rattle.tables.specs.View.{growers_of, pilots_of, place_of, Spreads, quantity_of, pilot_hours_of}

-- a quantity is spread as its places are
pub spreads : {q : Quantity} {n m first each first₀ each₀ : ℕ} → (each ≡ each₀) × (first ≡ first₀) →
    ((i j : ℕ) → place_of q n m i j ≡ first₀ + each₀ * (i * m + j)) → first₀ < 200000 → each₀ < 6 → Spreads q n m first each
spreads e places early few = rw (e.0, e.1) (record { places = places; early = early; few = few })

-- the numbers that stand at spread places
abbrev pub spread_over : List ℕ → ℕ → ℕ → ℕ → ℕ → ℕ → ℕ
spread_over list first each m i j = get_or list (first + each * (i * m + j)) 0

-- one place more of a row
pub next_place : (first each row j place : ℕ) → place ≡ first + each * (row + j) → place + each ≡ first + each * (row + (j + 1))
next_place first each row j place e = omega (arith, mul-add each row j, mul-add each row (j + 1), mul-add each j 1)

pub filled_spread : (q : Quantity) (list : List ℕ) (n m first each h w : ℕ) (before square : Grid) → n ≡ growers_of list →
    m ≡ pilots_of list → Spreads q n m first each → FilledOver before (spread_over list first each m) h w square →
    FilledOver before (quantity_of q list) h w square
filled_spread q list n m first each h w before square hn hm s f = record {
  square = f.square;
  inner = λ i j hi hj. f.inner i j hi hj ∙ ap (λ (p : ℕ). get_or list p 0) (sym (s.places i j)) ∙ rw (hn, hm);
  outer = f.outer;
}

-- the hours of pilots stand after those of growers
pub pilot_row : (list : List ℕ) (n k : ℕ) (r : List ℕ) → n ≡ growers_of list → k ≡ pilots_of list →
    FilledRow (λ i. get_or list (3 + n + i) 0) (min 16 k) r → FilledRow (pilot_hours_of list) (min 16 (pilots_of list)) r
pilot_row list n k r e f p = rw (e, f) at p
