-- Jumps: the prices of several pilots rise at once, as far as growers and pilots bear it.
-- Assumes nothing.
use Rattle.std.specs.Prelude.{ℕ, ◌+◌, ◌*◌, ◌≤◌, ◌<◌, Bool, true, false, ◌≡◌, List, get_or, length}
use Rattle.grid.specs.Pick.{pick}
use Rattle.market.specs.declared.Deal.TheVariants.{Tariff, Free}
use Rattle.market.specs.Market.{Ticket}
use Rattle.market.specs.Method.{Held, by_tariff, old_free, new_free, worth}
use Rattle.market.specs.Steps.{JumpGrower}
use Rattle.offers.specs.Limits.{top_price}
use Rattle.method.specs.View.{line}
use Rattle.method.specs.Choice.{chance}

-- the pilots that are marked
abbrev pub among : List Bool → ℕ → Bool
among marks j = get_or marks j false

module _ (t : Ticket) (chosen : ℕ → Bool) (price : ℕ → ℕ) (held : Held) where
  -- no hour that grower i holds in a free deal with a chosen one of the first k pilots is worth less than low
  pub record WorthAtLeast (i k low : ℕ) : Type 0 where
    pub old : (j : ℕ) → j < k → chosen j ≡ true → 0 < held old_free i j → low ≤ worth t price old_free i j
    pub new : (j : ℕ) → j < k → chosen j ≡ true → 0 < held new_free i j → low ≤ worth t price new_free i j

  -- no open deal of grower i with the first k pilots offers more than top, but for the free deals with chosen pilots
  pub record OffersAtMost (i k top : ℕ) : Type 0 where
    pub some : 0 < top
    pub tariff : (l : ℕ) → l < k → chance t price held i Tariff l ≤ top
    pub free : (l : ℕ) → l < k → chosen l ≡ false → chance t price held i Free l ≤ top

  -- grower i bears every rise of at most r
  abbrev pub GrowerBears : ℕ → ℕ → Type 0
  GrowerBears i r = (x : ℕ) → 0 < x → x ≤ r → (low : ℕ) × JumpGrower t chosen x price held i low

  -- so do his tariff hours with the chosen ones of the first k pilots: they pay at least the price then, or one eighteenth less
  pub record TariffsBear (i k r : ℕ) : Type 0 where
    pub each : (x : ℕ) → 0 < x → x ≤ r → (j : ℕ) → j < k → chosen j ≡ true → 0 < held by_tariff i j →
        price j + x ≤ 18 * t.tariff_pay i j + 1

  -- the first k growers and their tariff hours do
  pub record GrowersBear (k r : ℕ) : Type 0 where
    pub grower : (i : ℕ) → i < k → GrowerBears i r
    pub tariffs : (i : ℕ) → i < k → TariffsBear i t.pilots r

-- the chosen ones of the first k pilots bear every rise of at most r: they have no free hour, and no price rises above top_price
pub record PilotsBear (chosen : ℕ → Bool) (free price : ℕ → ℕ) (k r : ℕ) : Type 0 where
  pub full : 0 < r → (j : ℕ) → j < k → chosen j ≡ true → free j ≡ 0
  pub below : (x : ℕ) → 0 < x → x ≤ r → (j : ℕ) → j < k → chosen j ≡ true → price j + x ≤ top_price

-- the prices after a rise by x of the marked ones of the first k pilots
pub record RaisedMarked (prices prices' : List ℕ) (marks : List Bool) (k x : ℕ) : Type 0 where
  pub sixteen : length prices' ≡ 16
  pub price : (j : ℕ) → j < k → line prices' j ≡ line prices j + pick (among marks j) x 0
