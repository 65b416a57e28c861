-- `method::choice::used_by_grower` meets its contract.
use Rattle.std.proofs.Common.{◌<◌, ◌≤◌, length, arith}
use Rattle.std.proofs.lemmas.List.{get_or-take, length-take-le}
use Rattle.method.specs.View.{no_hours}
use Rattle.method.proofs.Totals.{total_none, total_more, total_end}
use borrow.Author.Rules.{rules}
use Rattle.method.proofs.choice.used_by_grower.Goals as goal

pub loop-pair-init : goal.loop-pair-init
loop-pair-init c = (search rules, search rules, total_none _)

pub loop-pair-preserved : goal.loop-pair-preserved
loop-pair-preserved c =
    let a = c.args in
    let few : a.sides.pilots ≤ length a.agreed = search rules in
    let long = length-take-le a.sides.pilots a.agreed few in
    let here : c.loop-pair.pair-index < a.sides.pilots = omega (arith, c.loop-pair-test.true, long) in
    let pair = get_or-take a.sides.pilots a.agreed c.loop-pair.pair-index no_hours here in (
      omega (arith, here),
      omega (arith, c.pair_hours-total.ensures.1, c.loop-pair.invariant.1),
      total_more _ _ _ _ c.loop-pair.invariant.2 (rw pair at c.pair_hours-total.ensures.0),
    )

pub overflow_add-total : goal.overflow_add-total
overflow_add-total c =
    let a = c.args in
    let few : a.sides.pilots ≤ length a.agreed = search rules in
    let long = length-take-le a.sides.pilots a.agreed few in
    record { fits = omega (arith, c.loop-pair-test.true, long, a.sides.few_pilots, c.pair_hours-total.ensures.1, c.loop-pair.invariant.1) }

pub returns : goal.returns
returns c =
    let a = c.args in
    let few : a.sides.pilots ≤ length a.agreed = search rules in
    let long = length-take-le a.sides.pilots a.agreed few in
    total_end _ _ _ _ (omega (arith, long, c.loop-pair-test.false, c.loop-pair.invariant.0)) c.loop-pair.invariant.2
