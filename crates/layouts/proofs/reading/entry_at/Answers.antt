-- `layouts::reading::entry_at` meets its contract: the label, and the number after it.
use mathlib.Core.Path.{sym, ◌∙◌}
use native.Mathlib.Omega.{arith}
use Rattle.layouts.proofs.WritingLaws.{front_is}
use Rattle.layouts.proofs.ReadingLaws.{entry_there, entry_missing}
use Rattle.layouts.proofs.reading.entry_at.Goals as goal

pub returns-then-stands : goal.returns-then-stands
returns-then-stands c = let a = c.args in
    let label = c.label-count in
    let is = c.front-before.ensures ∙ front_is _ label.ensures.0 (omega (arith, label.ensures.1)) in
    let there = sym c.stands.ensures ∙ c.if-stands.true in
    c.number_at.ensures ∙ entry_there a.layout a.growers a.pilots a.place a.text.now a.at c.front-before.result.now is there

pub returns : goal.returns
returns c = let a = c.args in
    let label = c.label-count in
    let is = c.front-before.ensures ∙ front_is _ label.ensures.0 (omega (arith, label.ensures.1)) in
    let missing = sym c.stands.ensures ∙ c.if-stands.false in
    entry_missing a.layout a.growers a.pilots a.place a.text.now a.at c.front-before.result.now is missing
