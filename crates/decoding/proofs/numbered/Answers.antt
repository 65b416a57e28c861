-- `decoding::numbered` meets its contract: what was found of the bytes that were looked at, and what is to be found of the rest, decide.
use mathlib.Core.Path.{refl}
use native.Mathlib.Omega.{arith}
use Rattle.decoding.proofs.Decoding.{numbered_turns, numbered_ends}
use Rattle.decoding.proofs.numbered.Goals as goal

pub loop-b-preserved : goal.loop-b-preserved
loop-b-preserved c = let l = c.loop-b in
    (l.invariant.0, omega arith, rw c.follows-well.ensures (numbered_turns _ l.b-index l.prior _ l.well (omega arith) refl l.invariant.2))

pub returns : goal.returns
returns c = let l = c.loop-b in numbered_ends _ l.b-index l.prior l.well (omega arith) l.invariant.2
