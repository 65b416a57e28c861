-- `scanning::scan` meets its contract: two runs make a form (`scan_is`).
use mathlib.Core.Path.{sym}
use native.Mathlib.Omega.{arith}
use Rattle.scanning.proofs.Running.{met_is, head_goes, head_refused, body_refused, left_refused, read_whole}
use Rattle.scanning.proofs.scan.Goals as goal

pub returns-in_err-head : goal.returns-in_err-head
returns-in_err-head g c =
    rw (met_is c.from_residual.result _ c.from_residual.ensures.1)
    (head_refused _ _ _ g.met.S.Source.ending _ (rw c.begun.ensures at c.in_err-head.ensures))

pub body_of-count-requires : goal.body_of-count-requires
body_of-count-requires g c = (head_goes _ _ _ _ (sym (rw c.begun.ensures at c.in_ok-head.ensures))).0

pub walk-requires-2-clause-known : goal.walk-requires-2-clause-known
walk-requires-2-clause-known g c = (head_goes _ _ _ _ (sym (rw c.begun.ensures at c.in_ok-head.ensures))).0

pub walk-requires-2-clause-count_bound : goal.walk-requires-2-clause-count_bound
walk-requires-2-clause-count_bound g c =
    omega (arith, (head_goes _ _ _ _ (sym (rw c.begun.ensures at c.in_ok-head.ensures))).1, c.body_of-count.ensures.1)

pub returns-in_err-end : goal.returns-in_err-end
returns-in_err-end g c =
    rw (met_is c.from_residual-in_err-end.result _ c.from_residual-in_err-end.ensures.1)
    (body_refused _ _ _ g.met.S.Source.ending _ _ (rw c.begun.ensures at c.in_ok-head.ensures) c.body_of-count.ensures.0 _ c.in_err-end.ensures)

pub returns-then-end-places : goal.returns-then-end-places
returns-then-end-places g c =
    rw c.refusals_of.ensures
    (left_refused _ _ _ g.met.S.Source.ending _ _ (rw c.begun.ensures at c.in_ok-head.ensures) c.body_of-count.ensures.0 _ c.in_ok-end.ensures
    (rw c.places.ensures at c.if-end-places.true))

pub returns : goal.returns
returns g c =
    read_whole _ _ _ g.met.S.Source.ending _ _ (rw c.begun.ensures at c.in_ok-head.ensures) c.body_of-count.ensures.0 _ c.in_ok-end.ensures
    (rw c.places.ensures at c.if-end-places.false)
