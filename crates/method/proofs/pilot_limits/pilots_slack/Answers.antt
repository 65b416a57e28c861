-- `method::pilot_limits::pilots_slack` meets its contract.
use Rattle.method.proofs.JumpLaws.{pilots_more}
use mathlib.Core.Path.{◌≡◌}
use native.Mathlib.Omega.{arith}
use borrow.Author.Rules.{rules}
use Rattle.method.proofs.pilot_limits.pilots_slack.Goals as goal

pub loop-j-preserved : goal.loop-j-preserved
loop-j-preserved c = (search rules, pilots_more _ _ _ _ _ _ c.pilot_slack-by.ensures c.loop-j.invariant.1)

pub returns : goal.returns
returns c = let e : c.loop-j.j ≡ c.args.sides.pilots = omega arith in rw (← e) c.loop-j.invariant.1
