-- How a price rises.
-- Assumes nothing.
use Rattle.std.specs.Prelude.{ℕ, ◌+◌, ◌<◌, Bool, true, ◌≡◌, ◌⊎◌, List, get_or, set}
use Rattle.market.specs.Market.{Ticket}
use Rattle.offers.specs.declared.Agreed.{Agreed}
use Rattle.method.specs.View.{line, held_in}
use Rattle.method.specs.Changes.{Full, Aged}
use Rattle.method.specs.Jumps.{among, GrowersBear, PilotsBear, RaisedMarked}

-- a jump that lifts pilot j and that all bear, by the hours that pilots have free; no hour is changed
pub record Jumps (t : Ticket) (free : ℕ → ℕ) (prices : List ℕ) (held : List (List Agreed)) (prices' : List ℕ)
    (held' : List (List Agreed)) (j : ℕ) : Type 0 where
  pub marks : List Bool
  pub by : ℕ
  pub some : 0 < by
  pub here : among marks j ≡ true
  pub growers : GrowersBear t (among marks) (line prices) (held_in held) t.growers by
  pub pilots : PilotsBear (among marks) free (line prices) t.pilots by
  pub raised : RaisedMarked prices prices' marks t.pilots by
  pub same : held' ≡ held

-- pilot j's price is one higher, and the pilot's new hours are old
pub record OneMore (t : Ticket) (prices : List ℕ) (held : List (List Agreed)) (prices' : List ℕ)
    (held' : List (List Agreed)) (j : ℕ) : Type 0 where
  pub price : prices' ≡ set prices j (get_or prices j 0 + 1)
  pub aged : Aged held held' j t.growers
  pub full : Full held'

abbrev pub Rises : Ticket → (ℕ → ℕ) → List ℕ → List (List Agreed) → List ℕ → List (List Agreed) → ℕ → Type 0
Rises t free prices held prices' held' j = Jumps t free prices held prices' held' j ⊎ OneMore t prices held prices' held' j
