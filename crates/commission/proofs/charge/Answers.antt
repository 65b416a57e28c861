-- `commission::charge` meets its contract: the invariant is `Charging`: what is charged so far, and what the bands that are left
-- charge, make the whole.
use mathlib.Core.Path.{◌≡◌}
use Prim.Native.Nat.{◌+◌, ◌*◌}
use native.Mathlib.Omega.{arith}
use Rattle.commission.proofs.Charging.{charging_last, charging_turns, charging_fits, charging_ends}
use Rattle.commission.proofs.charge.Goals as goal

pub overflow_add-result : goal.overflow_add-result
overflow_add-result c = let i = c.loop-k.invariant.1 in
    omega (arith, (charging_last i c.between.ensures.0 (omega arith) (omega arith) (omega arith) (omega arith)).1)

pub returns-then-at-bands : goal.returns-then-at-bands
returns-then-at-bands c = let i = c.loop-k.invariant.1 in
    charging_last i c.between.ensures.0 (omega arith) (omega arith) (omega arith) (omega arith)

pub overflow_add-total : goal.overflow_add-total
overflow_add-total c = let i = c.loop-k.invariant.1 in
    let high = c.max-high.result in
    omega (arith, charging_fits i c.between-total.ensures.0 (omega arith) (omega arith) high (omega arith) (omega arith) (omega arith))

pub loop-k-preserved : goal.loop-k-preserved
loop-k-preserved c = let high = c.max-high.result in
    let e : 2 * (c.loop-k.k + 1) ≡ 2 * c.loop-k.k + 2 = omega arith in (
      omega arith,
      rw e
          (charging_turns c.loop-k.invariant.1 c.between-total.ensures.0 (omega arith) (omega arith) high
          (omega arith) (omega arith) (omega arith)),
    )

pub returns : goal.returns
returns c = charging_ends c.loop-k.invariant.1 (omega arith)
