-- `windows::pairs::narrow_pairs` meets its contract: the pairs are narrowed grower by grower.
use mathlib.Core.Path.{◌∙◌}
use native.Mathlib.Omega.{arith}
use Rattle.windows.proofs.Narrowing.{pairs_start, pairs-at, few_growers, few_pilots, pairs_turn}
use Rattle.windows.proofs.pairs.narrow_pairs.Goals as goal

pub loop-i-init : goal.loop-i-init
loop-i-init c = (
  omega arith,
  pairs-at _ _ _ _ _ _ _ (omega arith)
      (pairs_start c.args.windows.now c.args.ticket.now _ _ c.requires c.entry-growers.ensures c.entry-pilots.ensures),
)

pub loop-j-preserved : goal.loop-j-preserved
loop-j-preserved c = let hi = c.loop-i-test.true in
    let hj = c.loop-j-test.true in
    let i = c.loop-i.i in
    let j = c.loop-j.j in
    let a = c.args in
    let rows = few_growers _ _ _ _ _ _ c.loop-i.invariant.1 in
    let columns = few_pilots _ _ _ _ _ _ c.loop-i.invariant.1 in (
      omega (arith, hj),
      λ xs p. pairs-at _ _ _ _ _ _ _ (omega arith)
          (pairs_turn a.windows.now xs _ _ i j _ c.loop-j.ticket _ hi hj
          (c.cell-hours.ensures
          ∙ rw (c.from.ensures, c.from-in-loop-j.ensures)
          (c.common_hours-common.ensures.inner i j (omega (arith, rows, hi)) (omega (arith, columns, hj))))
          c.narrow_pair.ensures (c.loop-j.invariant.1 xs p)),
    )
