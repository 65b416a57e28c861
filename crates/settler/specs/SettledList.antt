-- What settling a ticket's list promises, for every list: a sound settlement of the market that it means, of as many growers and pilots
-- as squares have room for.
-- Assumes nothing.
use Rattle.std.specs.Prelude.{ℕ, ◌≤◌, min, ◌≡◌, List, get_or, length}
use Rattle.market.specs.Market.{Sound, NobodyGains}
use Rattle.tables.specs.View.{growers_of, pilots_of, ticket_of, first_sixteen, settlement_of, settlement_length}

-- The list has kind 2, growers, pilots and three numbers for each pair, and zeros in the rest of its 771 places.
pub record SettledList (xs list : List ℕ) : Type 0 where
  pub long : length list ≡ 771
  pub kind : get_or list 0 0 ≡ 2
  pub growers : growers_of list ≡ min 16 (growers_of xs)
  pub pilots : pilots_of list ≡ min 16 (pilots_of xs)
  pub rest : (p : ℕ) → settlement_length (growers_of list) (pilots_of list) ≤ p → get_or list p 0 ≡ 0
  pub sound : Sound (first_sixteen (ticket_of xs)) (settlement_of list)
  -- for every unfilled deal, every spare of either party and every split with fractions, the two do not both gain
  pub nobody_gains : NobodyGains (first_sixteen (ticket_of xs)) (settlement_of list)
