-- `totals::has_tariff_deal` meets its contract: the caps that were passed by are 0, and one above 0 makes the sum so.
use Prim.Native.Nat.{min}
use mathlib.Core.Path.{◌≡◌, ap₂, sym}
use native.Mathlib.Omega.{arith}
use borrow.Author.Tests.{lt-ltb, le-ltb}
use Rattle.grid.specs.Grid.{at}
use Rattle.grid.specs.Sum.{sum, sum_square}
use Rattle.grid.proofs.Sums.{sum-none, sum_more, cell_le_square}
use Rattle.totals.proofs.has_tariff_deal.Goals as goal

pub loop-i-init : goal.loop-i-init
loop-i-init c = (omega arith, sum-none _)

pub loop-j-init : goal.loop-j-init
loop-j-init c = (omega arith, c.loop-i.invariant.1, sum-none _)

pub returns-then-tariff_cap-i-gt0 : goal.returns-then-tariff_cap-i-gt0
returns-then-tariff_cap-i-gt0 c = let a = c.args in
    sym (lt-ltb 0 (sum_square (at a.tariff_cap) (min 16 a.growers) (min 16 a.pilots)) (omega (
      arith,
      c.if-tariff_cap-i-gt0.true,
      cell_le_square (at a.tariff_cap) (min 16 a.growers) (min 16 a.pilots) c.loop-i.i c.loop-j.j
          (omega (arith, c.within-rows.ensures.0)) (omega (arith, c.within-columns.ensures.0)),
    )))

pub loop-j-preserved : goal.loop-j-preserved
loop-j-preserved c = let a = c.args in (
  omega arith,
  c.loop-j.invariant.1,
  omega (arith, c.if-tariff_cap-i-gt0.false, c.loop-j.invariant.2, sum_more (at a.tariff_cap c.loop-i.i) c.loop-j.j),
)

pub loop-i-preserved : goal.loop-i-preserved
loop-i-preserved c = let caps = at c.args.tariff_cap in
    let columns = c.within-columns.result in
    let row : sum (caps c.loop-i.i) columns ≡ 0 = rw ((let h0 : c.loop-j.j ≡ c.within-columns.result = omega arith in h0)) at c.loop-j.invariant.2 in
    (omega arith, omega (arith, row, c.loop-j.invariant.1, sum_more (λ x. sum (caps x) columns) c.loop-i.i))

pub returns : goal.returns
returns c = let a = c.args in
    let rows : c.loop-i.i ≡ min 16 a.growers = omega (arith, c.within-rows.ensures.0) in
    let columns : c.within-columns.result ≡ min 16 a.pilots = c.within-columns.ensures.0 in
    sym (le-ltb 0 (sum_square (at a.tariff_cap) (min 16 a.growers) (min 16 a.pilots))
    (omega (arith, c.loop-i.invariant.1, ap₂ (sum_square (at a.tariff_cap)) rows columns)))
