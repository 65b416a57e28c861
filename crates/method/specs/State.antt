-- A ticket that can be settled, and what holds of the state of the method: the prices and the square of held hours.
-- Assumes nothing.
use Rattle.std.specs.Prelude.{ℕ, ◌+◌, ◌≤◌, ◌<◌, ◌≡◌, List, length}
use Rattle.market.specs.Market.{Ticket, used_by_pilot}
use Rattle.market.specs.Method.{hours_of, Invariant, Done}
use Rattle.market.specs.Steps.{measure}
use Rattle.offers.specs.declared.Agreed.{Agreed}
use Rattle.offers.specs.Limits.{top_price}
use Rattle.method.specs.View.{line, held_in}
use Rattle.method.specs.Changes.{Full}

-- a ticket of 16-bit numbers that fits the squares, whose parties ask nothing for a free hour
pub record Fit (t : Ticket) : Type 0 where
  pub growers : t.growers ≤ 16
  pub pilots : t.pilots ≤ 16
  pub tariff_cap : (i j : ℕ) → t.tariff_cap i j < 65536
  pub free_cap : (i j : ℕ) → t.free_cap i j < 65536
  pub tariff_pay : (i j : ℕ) → t.tariff_pay i j < 65536
  pub joint_gain : (i j : ℕ) → t.joint_gain i j < 65536
  pub grower_standby : (i : ℕ) → t.grower_standby i ≡ 0
  pub pilot_standby : (j : ℕ) → t.pilot_standby j ≡ 0

-- what holds before and after every turn
pub record Live (t : Ticket) (prices : List ℕ) (held : List (List Agreed)) : Type 0 where
  pub full : Full held
  pub sixteen : length prices ≡ 16
  pub low : (j : ℕ) → j < t.pilots → line prices j ≤ top_price
  pub inv : Invariant t (line prices) (held_in held)

-- the hours that pilots have free
pub record FreeHours (t : Ticket) (held : List (List Agreed)) (free : List ℕ) : Type 0 where
  pub sixteen : length free ≡ 16
  pub each : (j : ℕ) → j < t.pilots → used_by_pilot t (hours_of (held_in held)) j + line free j ≡ t.pilot_hours j

-- what is left to do
abbrev pub left_to_do : Ticket → List ℕ → List (List Agreed) → ℕ
left_to_do t prices held = measure t (line prices) (held_in held) top_price

-- a turn from one state to the next
pub record Turned (t : Ticket) (prices : List ℕ) (held : List (List Agreed)) (prices' : List ℕ) (held' : List (List Agreed)) : Type 0 where
  pub live : Live t prices' held'
  pub less : left_to_do t prices' held' < left_to_do t prices held

-- the end of the method
pub record Ended (t : Ticket) (prices : List ℕ) (held : List (List Agreed)) : Type 0 where
  pub live : Live t prices held
  pub done : Done t (line prices) (held_in held)
