-- `texts::marks::mark_line` meets its contract: the line is written into room of its own, and lent from there.
use Prim.Native.Nat.{◌≤◌}
use mathlib.Core.Path.{◌≡◌, ◌∙◌}
use native.Mathlib.Omega.{arith}
use lib.ListN.{length}
use Rattle.marker.specs.Marked.{marked_values}
use Rattle.marker.proofs.ValueBounds.{marked_bounded}
use Rattle.texts.specs.MarkLine.{mark_line}
use Rattle.texts.proofs.LineWriting.{front_long, front_told}
use Rattle.texts.proofs.MarkLineLaws.{line_fits}
use Rattle.texts.proofs.marks.mark_line.Goals as goal

pub tell-end-requires : goal.tell-end-requires
tell-end-requires c = (
  rw ((let h0 : let a = c.args in
      c.values_of.result ≡ marked_values a.ticket.now a.settlement.now = c.values_of.ensures ∙ c.mark.ensures.result_value in h0)) (marked_bounded _ _),
  omega (arith, c.blank-line.ensures),
)

pub slice_bounds-line-end : goal.slice_bounds-line-end
slice_bounds-line-end c = omega (arith, c.tell-end.ensures.ends, line_fits c.values_of.result)

pub slice_bounds-lend-end : goal.slice_bounds-lend-end
slice_bounds-lend-end c = front_long _ c.tell-end.ensures ((let h0 : length (mark_line c.values_of.result) ≤ length c.blank-line.result = omega (arith, line_fits c.values_of.result, c.blank-line.ensures) in h0))

pub returns-clause-tells : goal.returns-clause-tells
returns-clause-tells c =
    let a = c.args in
    let e : c.values_of.result ≡ marked_values a.ticket.now a.settlement.now = c.values_of.ensures ∙ c.mark.ensures.result_value in
    let h1 : length (mark_line c.values_of.result) ≤ length c.blank-line.result =
    omega (arith, line_fits c.values_of.result, c.blank-line.ensures) in
    rw (← e) (front_told _ c.tell-end.ensures h1 _ a.text.now _ (c.lend.ensures.tells, c.lend.ensures.text_after)).0

pub returns-clause-text_after : goal.returns-clause-text_after
returns-clause-text_after c =
    let a = c.args in
    let e : c.values_of.result ≡ marked_values a.ticket.now a.settlement.now = c.values_of.ensures ∙ c.mark.ensures.result_value in
    let h1 : length (mark_line c.values_of.result) ≤ length c.blank-line.result =
    omega (arith, line_fits c.values_of.result, c.blank-line.ensures) in
    rw (← e) (front_told _ c.tell-end.ensures h1 _ a.text.now _ (c.lend.ensures.tells, c.lend.ensures.text_after)).1
