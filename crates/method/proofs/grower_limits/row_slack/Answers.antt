-- `method::grower_limits::row_slack` meets its contract.
use mathlib.Core.Path.{refl}
use native.Mathlib.Omega.{arith}
use Rattle.method.specs.View.{line, terms_in, agreed_in}
use Rattle.method.specs.Jumps.{among}
use Rattle.method.proofs.PairLimits.{tariffs_by, worth_by, offers_by}
use Rattle.method.proofs.JumpLaws.{worth_more, worth_end_lem, offers_more, offers_end, grower_bears}
use Rattle.method.proofs.Totals.{least_of}
use Rattle.method.proofs.JumpLaws.{tariffs_more, tariffs_end, growers_one}
use borrow.Author.Rules.{rules}
use Rattle.method.proofs.grower_limits.row_slack.Goals as goal

pub loop-j-preserved : goal.loop-j-preserved
loop-j-preserved c = let l = c.loop-j in
    let v = l.invariant in
    let a = c.args in
    let marked = among a.marks l.j in
    let terms = terms_in a.terms l.j in
    let agreed = agreed_in a.agreed l.j in
    let price = line a.price.now l.j in
    let t = tariffs_by marked terms agreed price _ _ c.tariff_slack-paid.ensures in
    let lower = least_of _ _ _ c.min-low.ensures in
    let w = worth_by marked terms agreed price _ _ c.worth_here.ensures lower.1 in
    let o = offers_by marked terms agreed price _ _ _ c.outside.ensures c.max-top.ensures in (
      search rules,
      omega (arith, t.0, v.1),
      tariffs_more _ _ _ _ _ _ _ _ t.0 t.1 v.2,
      worth_more _ _ _ _ _ _ _ _ lower.0 w.0 w.1 v.3,
      offers_more _ _ _ _ _ _ _ _ o.0 o.1 o.2 v.4,
    )

pub returns : goal.returns
returns c = let v = c.loop-j.invariant in
    let all = c.loop-j-test.false in
    let lower = least_of _ _ _ c.min.ensures in (
      omega (arith, lower.0, v.1),
      growers_one _ _ _ _ _ _ _ lower.0 lower.1 (tariffs_end _ _ _ _ _ _ _ _ (omega (arith, all, v.0)) v.2)
          (rw c.saturating_sub.ensures (grower_bears _ _ _ _ _ _ _ refl (worth_end_lem _ _ _ _ _ _ _ _ (omega (arith, all, v.0)) v.3)
          (offers_end _ _ _ _ _ _ _ _ (omega (arith, all, v.0)) v.4))),
    )
