-- `marker::used` meets its contract: the hours so far are summed, each below 65536.
use mathlib.Core.Path.{sym}
use Prim.Native.Nat.{◌+◌, ◌<◌}
use native.Mathlib.Omega.{arith}
use lib.ListN.{get_or}
use Rattle.grid.proofs.Sums.{sum-none, sum_more}
use borrow.Author.Rules.{rules}
use Rattle.marker.proofs.parties.used.Goals as goal

pub loop-l-init : goal.loop-l-init
loop-l-init c = (omega arith, omega arith, sym (sum-none _))

pub loop-l-preserved : goal.loop-l-preserved
loop-l-preserved c =
    let by_tariff : get_or c.args.tariff c.loop-l.l 0 < 65536 = search rules in
    let by_free : get_or c.args.free c.loop-l.l 0 < 65536 = search rules in
    omega (arith, by_tariff, by_free, sum_more (λ x. get_or c.args.tariff x 0 + get_or c.args.free x 0) c.loop-l.l)
