-- `layouts::squeezing::line_of` meets its contract: after j turns the byte that is looked for has not been met.
use mathlib.Core.Path.{refl, sym, ◌∙◌}
use native.Mathlib.Omega.{arith}
use Rattle.layouts.proofs.LineLaws.{counting_turns, counting_stops, counting_ends}
use Rattle.layouts.proofs.squeezing.line_of.Goals as goal

pub returns-then-is_here : goal.returns-then-is_here
returns-then-is_here c = let i = c.loop-b in
    counting_stops i.invariant.2 _ (omega arith) refl c.given-g.ensures (sym c.is_here.ensures ∙ c.if-is_here.true)

pub loop-b-preserved : goal.loop-b-preserved
loop-b-preserved c = let i = c.loop-b in
    let g = c.given-g.ensures in
    let here = sym c.is_here.ensures ∙ c.if-is_here.false in (
      i.invariant.0,
      omega arith,
      counting_turns i.invariant.2 _ (omega arith) refl g here c.fewer-left.ensures c.line_end-line.ensures c.next_mode-mode.ensures,
    )

pub returns : goal.returns
returns c = counting_ends c.loop-b.invariant.2 (omega arith)
