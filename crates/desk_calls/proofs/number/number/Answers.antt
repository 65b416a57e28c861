-- `desk_calls::number::number` meets its contract: after k turns the digits that are left, put after those so far, make the whole number.
use mathlib.Core.Path.{sym, ◌∙◌}
use native.Mathlib.Omega.{arith}
use Rattle.desk_calls.proofs.NumberLaws.{filled, digit_next, digit_none, digits_end, digits_spell}
use Rattle.desk_calls.proofs.number.number.Goals as goal

pub loop-b-preserved : goal.loop-b-preserved
loop-b-preserved c = let turn = c.loop-b in
    (turn.invariant.0, omega arith, sym (digit_next _ turn.value _ turn.b-index (omega arith) c.in_ok-value.ensures) ∙ turn.invariant.2)

pub returns-in_err-value : goal.returns-in_err-value
returns-in_err-value c = let turn = c.loop-b in
    rw c.from_residual.ensures
    (sym (digit_none _ turn.value turn.b-index (omega arith) c.in_err-value.ensures) ∙ turn.invariant.2 ∙ digits_spell _ (omega arith))

pub returns : goal.returns
returns c = let last = c.loop-b in
    sym (digits_end _ last.value last.b-index (omega arith)) ∙ last.invariant.2 ∙ digits_spell _ (filled _ (sym c.is_empty.ensures ∙ c.if-is_empty.false))
