-- `totals::gain_total` meets its contract: pair by pair, each product below 2^32.
use Prim.Native.Nat.{ℕ, ◌*◌, min}
use mathlib.Core.Path.{◌≡◌, ap, ap₂, sym, ◌∙◌}
use native.Mathlib.Omega.{arith}
use Rattle.grid.specs.Grid.{Grid, at}
use Rattle.grid.specs.Sum.{sum, sum_square}
use Rattle.grid.proofs.Sums.{sum-none, sum_more}
use Rattle.totals.proofs.gain_total.Goals as goal

-- what a pair adds
abbrev gain_of : Grid → Grid → ℕ → ℕ → ℕ
gain_of hours gain i j = at hours i j * at gain i j

pub loop-i-init : goal.loop-i-init
loop-i-init c = (omega arith, omega arith, sym (sum-none _))

pub loop-j-init : goal.loop-j-init
loop-j-init c = let a = c.args in
    omega (arith, sum-none (gain_of a.free_deal_hours a.joint_gain c.loop-i.i), c.loop-i.invariant.1, c.loop-i.invariant.2)

pub loop-j-preserved : goal.loop-j-preserved
loop-j-preserved c = let a = c.args in
    omega (arith, sum_more (gain_of a.free_deal_hours a.joint_gain c.loop-i.i) c.loop-j.j, c.loop-j.invariant.2)

pub loop-i-preserved : goal.loop-i-preserved
loop-i-preserved c = let a = c.args in
    let columns = c.within-columns.result in
    let row : sum (gain_of a.free_deal_hours a.joint_gain c.loop-i.i) c.loop-j.j ≡ sum (gain_of a.free_deal_hours a.joint_gain c.loop-i.i) columns =
    ap (sum _) ((let h0 : c.loop-j.j ≡ c.within-columns.result = omega arith in h0)) in
    omega (
      arith,
      c.within-columns.ensures.1,
      c.loop-j.invariant.1,
      c.loop-j.invariant.2,
      row,
      sum_more (λ x. sum (gain_of a.free_deal_hours a.joint_gain x) columns) c.loop-i.i,
    )

pub returns : goal.returns
returns c = let a = c.args in
    let rows : c.loop-i.i ≡ min 16 a.growers = omega (arith, c.within-rows.ensures.0) in
    let columns : c.within-columns.result ≡ min 16 a.pilots = c.within-columns.ensures.0 in
    c.loop-i.invariant.2 ∙ ap₂ (sum_square (gain_of a.free_deal_hours a.joint_gain)) rows columns
