-- `marker::judge_deals` meets its contract: no deal before this place is at fault; the walk stops at the first that is.
use Prim.Native.Nat.{ℕ, ◌*◌}
use mathlib.Core.Path.{◌≡◌, ap, ◌∙◌}
use native.Mathlib.Omega.{arith}
use Rattle.grid.proofs.FirstPlaces.{none_le}
use Rattle.marker.specs.Verdict.{deal_number}
use Rattle.marker.specs.Tables.{ticket_from, settlement_from}
use Rattle.marker.proofs.Views.{deal_found_is}
use Rattle.marker.proofs.Verdicts.{deals_judged_lem, deal_judged, deal_passed}
use Rattle.marker.proofs.deal_faults.judge_deals.Goals as goal

pub loop-fault-preserved : goal.loop-fault-preserved
loop-fault-preserved c = (
  (λ o. none_le _ _ _ ((deal_passed (ticket_from o) (settlement_from o) c.search.i c.loop-j.j c.search-test.true
      c.loop-j-test.true c.loop-fault.deal (c.loop-fault.invariant.0 o) _ ((c.deal_fault-found.ensures
      ∙ deal_found_is o c.search.i c.loop-j.j c.search-test.true
      c.loop-j-test.true c.loop-fault.deal))
      c.in_default.is)) (omega (arith, ap deal_number c.in-Tariff.is))),
  c.loop-fault.invariant.1,
)

pub loop-j-preserved : goal.loop-j-preserved
loop-j-preserved c = (
  omega arith,
  (λ o. none_le _ _ _ ((deal_passed (ticket_from o) (settlement_from o) c.search.i c.loop-j.j c.search-test.true
      c.loop-j-test.true c.loop-fault.deal (c.loop-fault.invariant.0 o) _ ((c.deal_fault-found.ensures
      ∙ deal_found_is o c.search.i c.loop-j.j c.search-test.true
      c.loop-j-test.true c.loop-fault.deal))
      c.in_default.is))
      (omega (arith, ap deal_number c.in-Free.is))),
  c.loop-fault.invariant.1,
)

pub returns-after-search : goal.returns-after-search
returns-after-search c = λ o. let a = c.args in
    let e : c.search.i ≡ a.sides.growers = omega arith in
    deals_judged_lem (ticket_from o) (settlement_from o) _
    (none_le _ _ _ (c.search.invariant.1 o) (omega (arith, ap (λ (k : ℕ). k * a.sides.pilots) e))) _ c.search.invariant.2

pub returns-in-Some : goal.returns-in-Some
returns-in-Some c = λ o. deal_judged (ticket_from o) (settlement_from o) c.search.i c.loop-j.j c.search-test.true
    c.loop-j-test.true c.loop-fault.deal (c.loop-fault.invariant.0 o) _ ((c.deal_fault-found.ensures
    ∙ deal_found_is o c.search.i c.loop-j.j c.search-test.true
    c.loop-j-test.true c.loop-fault.deal)) _ _
    c.in-Some.is
