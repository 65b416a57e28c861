-- `places::of_list` meets its contract: no beginning that was passed is faulty.
use native.Mathlib.Omega.{arith}
use Rattle.places.proofs.Searching.{found, nowhere}
use Rattle.places.proofs.of_list.Goals as goal

pub returns-then-faulty : goal.returns-then-faulty
returns-then-faulty c = let a = c.args in
    found a.document a.list.now _ c.loop-k.k _ c.front.ensures c.faulty.ensures
    c.loop-k.invariant.1 (omega (arith, c.loop-k-test.true)) c.if-faulty.true

pub returns : goal.returns
returns c = let a = c.args in
    nowhere a.document a.list.now c.loop-k.k c.loop-k.invariant.1 (omega (arith, c.loop-k-test.false))
