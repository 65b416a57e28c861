-- `reader::copy::fill` meets its contract: the invariant is `Filling`: the numbers that are left come from here, and written from place k
-- on they make the whole. Assumes nothing.
use mathlib.Core.Path.{sym, ◌∙◌}
use native.Mathlib.Omega.{arith}
use borrow.Author.Rules.{rules}
use Rattle.reader.proofs.Filling.{filling_ends, filling_finds, filling_word, filling_turns}
use Rattle.reader.proofs.copy.fill.Goals as goal

pub returns-in_default : goal.returns-in_default
returns-in_default c = let f = filling_finds c.loop-k.invariant.1 (omega (arith, c.loop-k-test.true, c.requires.fillable.long)) in
    let e = c.number-got.ensures ∙ sym f.1 in
    absurd (c.in_default.not-Number _ _ e)

pub overflow_cast-list : goal.overflow_cast-list
overflow_cast-list c = let i = c.loop-k.invariant in
    let e = sym c.in-Number.is ∙ c.number-got.ensures in
    record { fits = filling_word i.1 _ _ (omega (arith, c.loop-k-test.true, c.requires.fillable.long)) e }

pub loop-k-preserved : goal.loop-k-preserved
loop-k-preserved c = let i = c.loop-k.invariant in
    let e = sym c.in-Number.is ∙ c.number-got.ensures in
    (search rules, filling_turns i.1 _ _ (omega (arith, c.loop-k-test.true, c.requires.fillable.long)) e)

pub returns : goal.returns
returns c = filling_ends c.loop-k.invariant.1 (omega (arith, c.requires.fillable.long))
