-- `layouts::reading::read` meets its contract: by the first word.
use mathlib.Core.Path.{sym, ◌∙◌}
use native.Mathlib.Omega.{arith}
use Rattle.layouts.proofs.WritingLaws.{front_is}
use Rattle.layouts.proofs.AnswerLaws.{by_ticket, by_settlement, by_number}
use Rattle.layouts.proofs.reading.read.Goals as goal

pub worded-requires : goal.worded-requires
worded-requires c =
    let s = c.squeeze-count.ensures in
    (omega arith, c.front-tight.ensures ∙ front_is _ s.0 (omega (arith, s.1)))

pub returns-then-stands : goal.returns-then-stands
returns-then-stands c =
    let s = c.squeeze-count.ensures in
    let tight = c.front-tight.ensures ∙ front_is _ s.0 (omega (arith, s.1)) in
    let same = by_ticket c.args.text.now (omega arith) _ tight (sym c.stands.ensures ∙ c.if-stands.true) in
    record { value = rw same c.worded.ensures.value; list_after = rw same c.worded.ensures.list_after }

pub worded-requires-then-stands-2 : goal.worded-requires-then-stands-2
worded-requires-then-stands-2 c =
    let s = c.squeeze-count.ensures in
    (omega arith, c.front-tight.ensures ∙ front_is _ s.0 (omega (arith, s.1)))

pub returns-then-stands-2 : goal.returns-then-stands-2
returns-then-stands-2 c =
    let s = c.squeeze-count.ensures in
    let tight = c.front-tight.ensures ∙ front_is _ s.0 (omega (arith, s.1)) in
    let same = by_settlement c.args.text.now (omega arith) _ tight (sym c.stands.ensures ∙ c.if-stands.false) (sym c.stands-2.ensures ∙ c.if-stands-2.true) in
    record { value = rw same c.worded-then-stands-2.ensures.value; list_after = rw same c.worded-then-stands-2.ensures.list_after }

pub returns : goal.returns
returns c =
    let s = c.squeeze-count.ensures in
    let tight = c.front-tight.ensures ∙ front_is _ s.0 (omega (arith, s.1)) in
    let same = by_number c.args.text.now (omega arith) _ tight (sym c.stands.ensures ∙ c.if-stands.false) (sym c.stands-2.ensures ∙ c.if-stands-2.false) in
    record { value = rw same c.plain.ensures.value; list_after = rw same c.plain.ensures.list_after }
