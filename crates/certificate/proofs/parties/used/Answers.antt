-- `certificate::parties::used` meets its contract: the hours so far are summed, each below 65536.
use Prim.Native.Nat.{◌+◌, ◌<◌}
use lib.ListN.{get_or}
use mathlib.Core.Path.{sym}
use native.Mathlib.Omega.{arith}
use Rattle.grid.proofs.Sums.{sum-none, sum_more}
use Rattle.certificate.specs.Rows.{line}
use borrow.Author.Rules.{rules}
use Rattle.certificate.proofs.parties.used.Goals as goal

pub loop-l-init : goal.loop-l-init
loop-l-init c = (search rules, search rules, sym (sum-none _))

pub loop-l-preserved : goal.loop-l-preserved
loop-l-preserved c = let l = c.loop-l in
    let a = c.args in
    let by_tariff : get_or a.tariff l.l 0 < 65536 = search rules in
    let by_free : get_or a.free l.l 0 < 65536 = search rules in (
      search rules,
      omega (arith, by_tariff, by_free),
      omega (arith, sum_more (λ k. line a.tariff k + line a.free k) l.l),
    )
