-- `reader::copy::receive` meets its contract: what was decoded passes, and is copied if there is room; or the numbers are read one by one.
use native.Mathlib.Omega.{arith}
use mathlib.Core.Path.{sym, ◌∙◌}
use Rattle.decoding.proofs.Numbers.{decoded_given}
use Rattle.passing.proofs.Accepting.{passes_whole}
use Rattle.reader.proofs.Filling.{decoded, decoded_short, decoded_done}
use Rattle.reader.proofs.copy.receive.Goals as goal

pub returns-then-count-list : goal.returns-then-count-list
returns-then-count-list c =
    let d = c.decode-count.ensures in
    let own = decoded _ _ _ _ _ (decoded_given c.args.s.now c.room-own.result _ _ d.value d.list_after) c.front.ensures
    (passes_whole c.args.document c.front.result.now (sym c.passes.ensures ∙ c.if-not-passes.false)) in
    let copied = rw (c.front-then-count-list.ensures ∙ sym c.front.ensures) at c.copy_front.ensures in
    let both = decoded_done own _ _ c.if-count-list.true copied in
    record { tells = both.0; list_after = both.1 }

pub returns : goal.returns
returns c =
    let d = c.decode-count.ensures in
    let own = decoded _ _ _ _ _ (decoded_given c.args.s.now c.room-own.result _ _ d.value d.list_after) c.front.ensures
    (passes_whole c.args.document c.front.result.now (sym c.passes.ensures ∙ c.if-not-passes.false)) in
    let both = decoded_short own _ (omega arith) in
    record { tells = both.0; list_after = both.1 }
