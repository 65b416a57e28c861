-- What the search for late hours finds: hours that pay their pilot less than his price.
-- Assumes nothing.
use Rattle.std.specs.Prelude.{ℕ, ◌<◌, ◌≡◌}
use Rattle.market.specs.declared.Deal.{Deal}
use Rattle.market.specs.declared.Deal.TheVariants.{Tariff, Free}
use Rattle.market.specs.Market.{Ticket}
use Rattle.market.specs.Method.{Slot, by_tariff, old_free, Held}
use Rattle.market.specs.Steps.{Late}

-- how late hours of a deal are held
abbrev pub late_slot : Deal → Slot
late_slot Tariff = by_tariff
late_slot Free = old_free

-- pilot j has x late hours in deal d with grower i
pub record HasLate (t : Ticket) (price : ℕ → ℕ) (held : Held) (d : Deal) (i j x : ℕ) : Type 0 where
  pub grower : i < t.growers
  pub late : Late t price (late_slot d) i j
  pub some : 0 < x
  pub count : held (late_slot d) i j ≡ x
