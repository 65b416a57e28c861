-- What growers ask for.
-- Assumes nothing.
use Rattle.std.specs.Prelude.{ℕ, ◌+◌, ◌*◌, ◌≤◌, ◌<◌, ◌≡◌, ltb, Option, None, Some}
use Rattle.grid.specs.Pick.{pick}
use Rattle.market.specs.declared.Deal.{Deal}
use Rattle.market.specs.Market.{Ticket, cap, used_by_grower}
use Rattle.market.specs.Method.{Held, hours_of, offer}

-- what a deal of grower i offers, if it is below its cap, else 0
abbrev pub chance : Ticket → (ℕ → ℕ) → Held → ℕ → Deal → ℕ → ℕ
chance t price held i d j = pick (ltb (hours_of held d i j) (cap t d i j)) (offer t price d i j) 0

-- the place of the greatest f of both deals with the first k pilots, or nothing if they all are 0
abbrev pub Greatest : (Deal → ℕ → ℕ) → ℕ → Option (ℕ × Deal) → Type 0
Greatest f k None = (d : Deal) (j : ℕ) → j < k → f d j ≡ 0
Greatest f k (Some (j, d)) = (j < k) × (0 < f d j) × ((e : Deal) (l : ℕ) → l < k → f e l ≤ f d j)

-- deal d with pilot j is open, and no open deal offers grower i more, who has a free hour
pub record Wanted (t : Ticket) (price : ℕ → ℕ) (held : Held) (d : Deal) (i j : ℕ) : Type 0 where
  pub grower : i < t.growers
  pub pilot : j < t.pilots
  pub free : used_by_grower t (hours_of held) i < t.grower_hours i
  pub room : hours_of held d i j < cap t d i j
  pub taken : 0 < offer t price d i j
  pub most : (e : Deal) (l : ℕ) → l < t.pilots → hours_of held e i l < cap t e i l → offer t price e i l ≤ offer t price d i j

-- grower i has no free hour or no open deal
abbrev pub AsksNothing : Ticket → (ℕ → ℕ) → Held → ℕ → Type 0
AsksNothing t price held i = (d : Deal) (j : ℕ) → j < t.pilots → used_by_grower t (hours_of held) i < t.grower_hours i →
    hours_of held d i j < cap t d i j → offer t price d i j ≤ 18 * t.grower_standby i

-- x more hours are free for grower i, and have room in deal d with pilot j
pub record Room (t : Ticket) (held : Held) (d : Deal) (i j x : ℕ) : Type 0 where
  pub some : 0 < x
  pub room : hours_of held d i j + x ≤ cap t d i j
  pub free : used_by_grower t (hours_of held) i + x ≤ t.grower_hours i

-- what grower i asks for
abbrev pub Asks : Ticket → (ℕ → ℕ) → Held → ℕ → Option (ℕ × Deal × ℕ) → Type 0
Asks t price held i None = AsksNothing t price held i
Asks t price held i (Some (j, d, x)) = Wanted t price held d i j × Room t held d i j x
