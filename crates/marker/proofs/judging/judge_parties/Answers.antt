-- `marker::judge_parties` meets its contract: growers, then pilots, then deals.
use mathlib.Core.Path.{◌∙◌}
use native.Mathlib.Omega.{arith}
use Rattle.marker.specs.Tables.{ticket_from, settlement_from}
use Rattle.marker.proofs.Views.{first-grower, first-pilot}
use Rattle.marker.proofs.Verdicts.{grower-judged, pilot-judged, hours-judged}
use Rattle.marker.proofs.judging.judge_parties.Goals as goal

pub returns-then-grower-sides : goal.returns-then-grower-sides
returns-then-grower-sides c = λ o. grower-judged (ticket_from o) (settlement_from o) _ _ (c.first_over-grower.ensures ∙ first-grower o) (omega arith)

pub returns-then-pilot-sides : goal.returns-then-pilot-sides
returns-then-pilot-sides c = λ o. pilot-judged (ticket_from o) (settlement_from o) _ _ (c.first_over-grower.ensures ∙ first-grower o)
    c.if-grower-sides.false
    _ (c.first_over-pilot.ensures ∙ first-pilot o) c.if-pilot-sides.true

pub returns : goal.returns
returns c = λ o. c.judge_deals.ensures o ∙ hours-judged (ticket_from o) (settlement_from o) _ _
    (c.first_over-grower.ensures ∙ first-grower o) c.if-grower-sides.false
    _ (c.first_over-pilot.ensures ∙ first-pilot o) c.if-pilot-sides.false
