-- Places of faults, computed from the definitions.
-- Assumes nothing.
use mathlib.Core.Path.{◌≡◌, refl}
use mathlib.Core.List.{[], ◌∷◌}
use Rattle.grid.specs.First.{first}
use Rattle.checks.specs.declared.refusals.Document.{Document}
use Rattle.groups.specs.Groups.{read_from, encode, groups_in}
use Rattle.documents.specs.Walk.{walk, form}
use Rattle.places.specs.Places.{place_in, numbers_in, number_of, beginning_of}

-- seventeen pilots
pub pilots : place_in Document.Ticket (1 ∷ 1 ∷ 17 ∷ 5 ∷ []) ≡ 2
unfolding first form walk
pilots = refl

-- a number after the last one
pub left : place_in Document.Ticket (1 ∷ 1 ∷ 1 ∷ 1 ∷ 1 ∷ 0 ∷ 0 ∷ 0 ∷ 1 ∷ 10 ∷ 7 ∷ 7 ∷ []) ≡ 10
unfolding first form walk
left = refl

-- a ticket that ends early has no fault
pub early : place_in Document.Ticket (1 ∷ 1 ∷ 1 ∷ 1 ∷ []) ≡ 4
unfolding first form walk
early = refl

-- hours of 300, after four bytes, are the fifth number of these bytes
pub hours : (number_of Document.Ticket (1 ∷ 1 ∷ 1 ∷ 60 ∷ 172 ∷ 2 ∷ 0 ∷ []) ≡ 4) × (beginning_of (1 ∷ 1 ∷ 1 ∷ 60 ∷ 172 ∷ 2 ∷ 0 ∷ []) 4 ≡ 4)
unfolding first form walk numbers_in read_from encode groups_in
hours = (refl, refl)
