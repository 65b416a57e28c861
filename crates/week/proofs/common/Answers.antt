-- `week::common` meets its contract: the hours of both are counted one after another.
use Rattle.std.proofs.Common.{false, length, rules, ◌&&◌, ◌++◌, ◌∷◌, [], ◌+◌, sym, ◌≡◌, arith}
use mathlib.Core.Path.{refl}
use Rattle.std.proofs.lemmas.List.{length-append}
use Rattle.std.proofs.lemmas.Slice.Zip.{zip_turn}
use Rattle.grid.proofs.Sums.{sum-none}
use Rattle.week.proofs.WeekLaws.{count_more, count_few, byte_pick}
use Rattle.week.proofs.common.Invariants.{both}
use Rattle.week.proofs.common.Goals as goal

pub loop-one-init : goal.loop-one-init
loop-one-init c = (omega arith, sym (sum-none _))

pub overflow_add-count : goal.overflow_add-count
overflow_add-count c =
    let few = count_few (both c.args.a.now c.args.b.now) (length c.loop-one.yielded) in
    let pair = byte_pick (c.in-Some.field-0-0.now && c.in-Some.field-0-1.now) in
    record { fits = omega (arith, c.loop-one.invariant.0, c.loop-one.invariant.1, few, pair.1, c.from-count.ensures) }

pub loop-one-preserved : goal.loop-one-preserved
loop-one-preserved c =
    let turn = zip_turn c.args.a.now c.args.b.now c.loop-one.yielded c.into_iter-one-iterator.result c.loop-one.one-iterator c.next.new.self _ (search rules) (search rules)
    c.loop-one.yielded_by _ c.in-Some.is c.next.ensures.steps in
    let pair = byte_pick (c.in-Some.field-0-0.now && c.in-Some.field-0-1.now) in
    let more : length (c.loop-one.yielded ++ ((c.in-Some.field-0-0, c.in-Some.field-0-1) ∷ [])) ≡ length c.loop-one.yielded + 1
    = length-append c.loop-one.yielded _ in
    let same : (c.in-Some.field-0-0.now && c.in-Some.field-0-1.now) ≡ both c.args.a.now c.args.b.now (length c.loop-one.yielded)
    = rw (turn.2 false, turn.3 false) refl in
    rw more (omega (arith, turn.0), rw (c.from-count.ensures, pair.0) (count_more _ _ _ _ c.loop-one.invariant.1 same))
