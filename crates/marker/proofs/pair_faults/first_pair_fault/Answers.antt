-- `marker::first_pair_fault` meets its contract: no pair before this place is at fault; what is found is the first.
use Prim.Native.Nat.{ℕ, ◌+◌, ◌*◌}
use mathlib.Core.Path.{◌≡◌, ap}
use mathlib.Core.List.{[]}
use native.Mathlib.Omega.{arith}
use Rattle.grid.proofs.FirstPlaces.{none_more, none_le}
use Rattle.grid.proofs.Places.{row_within}
use Rattle.market.specs.Tables.{ticket_in, settlement_in}
use Rattle.marker.specs.Verdict.{by_pair, pair_verdict, pair_fault_at}
use Rattle.verdicts.specs.Faults.{found_if}
use Rattle.marker.proofs.Verdicts.{found_holds, found_fails, found_first, found_none, pair_found}
use Rattle.marker.proofs.pair_faults.first_pair_fault.Goals as goal

pub returns-in-Some : goal.returns-in-Some
returns-in-Some c = let a = c.args in
    let h = found_holds _ _ _ _ ((let h0 : let t = (let a = c.args in ticket_in a.sides.growers a.sides.pilots [] [] a.tariff_cap [] [] a.free_cap a.joint_gain) in
    let x = (let a = c.args in settlement_in a.tariff_hours a.free_deal_hours a.pay) in
    let p = c.loop-i.i * c.args.sides.pilots +
    c.loop-j.j in
    c.pair_fault-found.result ≡ found_if (pair_fault_at t x p) (by_pair (pair_verdict t x) c.args.sides.pilots p) = pair_found ((let a = c.args in ticket_in a.sides.growers a.sides.pilots [] [] a.tariff_cap [] [] a.free_cap a.joint_gain)) ((let a = c.args in settlement_in a.tariff_hours a.free_deal_hours a.pay))
    c.loop-i.i
    c.loop-j.j
    c.loop-j-test.true _ c.pair_fault-found.ensures in h0)) c.in-Some.is in
    found_first _ (a.sides.growers * a.sides.pilots) (by_pair (pair_verdict
    ((let a = c.args in ticket_in a.sides.growers a.sides.pilots [] [] a.tariff_cap [] [] a.free_cap a.joint_gain))
    ((let a = c.args in settlement_in a.tariff_hours a.free_deal_hours a.pay))) a.sides.pilots) _
    c.loop-j.invariant.1
    (omega (
      arith,
      row_within c.loop-i.i a.sides.growers a.sides.pilots
          c.loop-i-test.true,
      c.loop-j-test.true,
    )) h.0 _ h.1

pub loop-j-preserved : goal.loop-j-preserved
loop-j-preserved c = (
  omega arith,
  none_le _ _ _ (none_more _ _ c.loop-j.invariant.1
      (found_fails _ _ _ ((let h0 : let t = (let a = c.args in ticket_in a.sides.growers a.sides.pilots [] [] a.tariff_cap [] [] a.free_cap a.joint_gain) in
      let x = (let a = c.args in settlement_in a.tariff_hours a.free_deal_hours a.pay) in
      let p = c.loop-i.i * c.args.sides.pilots +
      c.loop-j.j in
      c.pair_fault-found.result ≡ found_if (pair_fault_at t x p) (by_pair (pair_verdict t x) c.args.sides.pilots p) = pair_found ((let a = c.args in ticket_in a.sides.growers a.sides.pilots [] [] a.tariff_cap [] [] a.free_cap a.joint_gain)) ((let a = c.args in settlement_in a.tariff_hours a.free_deal_hours a.pay))
      c.loop-i.i
      c.loop-j.j
      c.loop-j-test.true _ c.pair_fault-found.ensures in h0)) c.in_default.is)) (omega arith),
)

pub returns : goal.returns
returns c = let a = c.args in
    let e : c.loop-i.i ≡ a.sides.growers = omega arith in
    found_none _ _ (by_pair (pair_verdict ((let a = c.args in ticket_in a.sides.growers a.sides.pilots [] [] a.tariff_cap [] [] a.free_cap a.joint_gain)) ((let a = c.args in settlement_in a.tariff_hours a.free_deal_hours a.pay))) a.sides.pilots)
    (none_le _ _ _ c.loop-i.invariant.1 (omega (arith, ap (λ (k : ℕ). k * a.sides.pilots) e)))
