-- What the private functions know of a list with room for every ticket: a ticket that passes its checks stands in front of it.
-- Assumes nothing.
use Rattle.std.specs.Prelude.{Ok}
use Rattle.std.specs.Prelude.{ℕ, List}
use Rattle.reader.specs.Walk.{Outcome}
use Rattle.tables.specs.View.{ticket_front}
use Rattle.ticket_calls.specs.Calls.{Call, SetPair}
use Rattle.ticket_calls.proofs.InFront as fronts
use Rattle.pair_caps.specs.PairCaps.{narrowed_terms}
use Rattle.windows.specs.Narrowed.{terms_of, narrowed_as}

abbrev pub InFront : List ℕ → List ℕ → Type 0
InFront xs list = fronts.InFront xs list

abbrev pub Holds : List ℕ → Type 0
Holds list = InFront (ticket_front list) list

-- What comes of that ticket.
abbrev pub outcome_of : List ℕ → List ℕ → Outcome
outcome_of windows list = narrowed_as windows (Ok (ticket_front list))

-- The call that narrows a pair with so many hours in common.
abbrev pub pair_call : ℕ → ℕ → ℕ → List ℕ → Call
pair_call i j common list = SetPair i j (narrowed_terms common (terms_of list i j))
