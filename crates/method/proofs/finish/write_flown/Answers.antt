-- `method::finish::write_flown` meets its contract.
use mathlib.Core.Path.{refl}
use native.Mathlib.Omega.{arith}
use Rattle.grid.proofs.Filling.{part-start, part-put, part_row}
use Rattle.grid.proofs.Squares.{square_is}
use Rattle.market.specs.declared.Deal.TheVariants.{Tariff, Free}
use borrow.Author.Rules.{rules}
use Rattle.method.proofs.finish.write_flown.Goals as goal

pub loop-i-init : goal.loop-i-init
loop-i-init c = let t = c.copied-by_tariff in
    let f = c.copied-free in (
      omega arith,
      part-start _ _ _ (rw t.ensures at (square_is t.result _ t.type_inv)),
      part-start _ _ _ (rw f.ensures at (square_is f.result _ f.type_inv)),
      part-start _ _ _ c.zeros-pay.ensures.0,
    )

pub overflow_add-free : goal.overflow_add-free
overflow_add-free c = omega (arith, c.requires.j_bound Free _ _ c.loop-i-test.true c.loop-j-test.true)

pub loop-j-preserved : goal.loop-j-preserved
loop-j-preserved c = let inv = c.loop-j.invariant in
    let hi = c.loop-i-test.true in
    let hj = c.loop-j-test.true in (
      omega arith,
      λ before p. part-put _ _ _ _ _ _ _ (omega arith) hj c.args.sides.few_pilots (c.requires.j_bound Tariff _ _ hi hj) refl (inv.1 before p),
      λ before p. part-put _ _ _ _ _ _ _ (omega arith) hj c.args.sides.few_pilots (c.requires.j_bound Free _ _ hi hj) refl (inv.2 before p),
      λ before p. part-put _ _ _ _ _ _ _ (omega arith) hj c.args.sides.few_pilots (search rules) c.pay_for.ensures (inv.3 before p),
    )

pub loop-i-preserved : goal.loop-i-preserved
loop-i-preserved c = let row = c.loop-j.invariant in
    let inv = c.loop-i.invariant in (
      omega arith,
      part_row _ _ _ _ _ _ (omega arith) (omega arith) (row.1 _ inv.1),
      part_row _ _ _ _ _ _ (omega arith) (omega arith) (row.2 _ inv.2),
      part_row _ _ _ _ _ _ (omega arith) (omega arith) (row.3 _ inv.3),
    )
