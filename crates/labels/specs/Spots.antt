-- Where the number at a place of a document stands in a text of it: on which line, and after how many others.
-- Assumes nothing.
use Rattle.std.specs.Prelude.{ℕ, ◌-◌, ◌/◌, ◌%◌, cond, ltb}
use Rattle.documents.specs.Ticket.{before_pairs}
use Rattle.labels.specs.declared.places.Layout.{Layout}
use Rattle.labels.specs.declared.places.Layout.TheVariants.{Ticket, Settlement}
use Rattle.labels.specs.declared.places.Line.TheVariants.{Head, Grower, Pilot, Pair}
use Rattle.labels.specs.declared.places.Spot.{Spot}

-- How many numbers stand between the first three and the pairs: everybody's hours, in a ticket.
abbrev pub hours_of : Layout → ℕ → ℕ → ℕ
hours_of Ticket n m = before_pairs n m
hours_of Settlement n m = 0

-- How many numbers a pair has.
abbrev pub columns : Layout → ℕ
columns Ticket = 5
columns Settlement = 3

-- The spot of somebody's hours, and of a number of a pair, counted from the first of them.
abbrev pub party_spot : ℕ → ℕ → Spot
party_spot n p = cond (ltb p n) (record { line = Grower p; column = 0 }) (record { line = Pilot (p - n); column = 0 })

abbrev pub pair_spot : Layout → ℕ → ℕ → Spot
pair_spot l m p = record { line = Pair (p / columns l / m) (p / columns l % m); column = p % columns l }

-- The spot of a place of a document with n growers and m pilots. Kind, n and m stand on the first line.
abbrev pub after_head : Layout → ℕ → ℕ → ℕ → Spot
after_head l n m p = cond (ltb p (hours_of l n m)) (party_spot n p) (pair_spot l m (p - hours_of l n m))

abbrev pub spot_of : Layout → ℕ → ℕ → ℕ → Spot
spot_of l n m p = cond (ltb p 3) (record { line = Head; column = p }) (after_head l n m (p - 3))
