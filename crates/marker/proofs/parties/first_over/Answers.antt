-- `marker::first_over` meets its contract: nobody before this one is over his hours.
use mathlib.Core.Path.{sym}
use native.Mathlib.Omega.{arith}
use borrow.Author.Tests.{lt-ltb}
use Rattle.grid.proofs.FirstPlaces.{none_le, first_is}
use Rattle.marker.proofs.parties.first_over.Goals as goal

pub returns-then-from-party : goal.returns-then-from-party
returns-then-from-party c = sym (first_is _ _ _ (omega arith) c.loop-p.invariant.1
    (λ _. rw c.from.ensures at (lt-ltb _ _ c.if-from-party.true)))

pub returns : goal.returns
returns c = sym (first_is _ _ _ (omega arith) (none_le _ _ _ c.loop-p.invariant.1 (omega arith)) (λ h. absurd (omega arith)))
