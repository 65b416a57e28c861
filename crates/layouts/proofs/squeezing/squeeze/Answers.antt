-- `layouts::squeezing::squeeze` meets its contract: after k turns the bytes that are left, squeezed from here on, make the whole.
use mathlib.Core.Path.{refl}
use native.Mathlib.Omega.{arith}
use Rattle.layouts.proofs.SqueezingLaws.{squeezing_turns, squeezing_ends}
use Rattle.layouts.proofs.squeezing.squeeze.Goals as goal

pub loop-b-preserved : goal.loop-b-preserved
loop-b-preserved c = let i = c.loop-b in (
  i.invariant.0,
  omega arith,
  squeezing_turns i.invariant.2 _ (omega arith) refl c.given.ensures c.next_mode-mode.ensures c.store-count.ensures,
)

pub returns : goal.returns
returns c = let i = c.loop-b in
    (squeezing_ends i.invariant.2 (omega arith) c.last.ensures c.store.ensures, omega (arith, i.invariant.2.few, c.store.ensures.1))
