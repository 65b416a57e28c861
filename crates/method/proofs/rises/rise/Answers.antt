-- `method::rises::rise` meets its contract.
use Rattle.std.proofs.Common.{refl, inl, arith, rules}
use native.Mathlib.Nat.{le_refl}
use Rattle.method.specs.View.{line}
use Rattle.method.specs.Jumps.{among, PilotsBear}
use Rattle.method.proofs.JumpLaws.{growers_more, growers_end, pilots_less}
use Rattle.method.proofs.rises.rise.Goals as goal

pub loop-k-preserved : goal.loop-k-preserved
loop-k-preserved c = let a = c.args in
    let l = c.loop-k in
    let e = c.row_slack-by.ensures in
    let bear = growers_more a.sides.growers a.sides.pilots a.terms a.held _ _ l.k _ _ e.0 e.1 l.invariant.2 in
    (search rules, omega (arith, e.0, l.invariant.1), bear)

pub raise_marked-requires-clause-x_bound : goal.raise_marked-requires-clause-x_bound
raise_marked-requires-clause-x_bound c =
    let p = c.requires.full in
    let bear : PilotsBear (among c.loop-step.marks) (line c.args.free) (line c.args.price.now) c.args.sides.pilots c.loop-k.by =
    pilots_less _ _ _ _ _ _ c.loop-k.invariant.1 c.pilots_slack-by.ensures in
    let below = bear.below _ c.if-by-gt0.true (le_refl _) _ p.1 c.if-marks-j.true in
    omega (arith, below)

pub returns-then-marks-j : goal.returns-then-marks-j
returns-then-marks-j c = let l = c.loop-k in
    inl (record {
      marks = c.loop-step.marks;
      by = l.by;
      some = c.if-by-gt0.true;
      here = c.if-marks-j.true;
      growers = growers_end _ _ _ _ _ _ _ (omega (arith, l.invariant.0, c.loop-k-test.false)) l.invariant.2;
      pilots = pilots_less _ _ _ _ _ _ l.invariant.1 c.pilots_slack-by.ensures;
      raised = c.raise_marked.ensures;
      same = refl;
    })
