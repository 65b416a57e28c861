-- `sheets::pairs::pair_lines` meets its contract: after p turns the lines of the first p pairs stand in the page.
use mathlib.Core.Path.{◌≡◌}
use Prim.Native.Nat.{◌*◌}
use native.Mathlib.Omega.{arith}
use Rattle.grid.proofs.Places.{Inside, inside}
use Rattle.sheets.proofs.PairLaws.{no_pairs, turn_fits, turn_writes}
use Rattle.sheets.proofs.pairs.pair_lines.Goals as goal

pub loop-p-init : goal.loop-p-init
loop-p-init c = (omega arith, no_pairs _ _ _ _)

pub pair_line-here-requires : goal.pair_line-here-requires
pair_line-here-requires c = let a = c.args in
    turn_fits a.tariff_hours a.tariff_gain a.tariff_pay a.free_deal_hours a.joint_gain a.pay _ a.pilots
    c.loop-p.p _ _
    ((let h0 : Inside c.args.growers c.args.pilots c.loop-p.p = inside _ _ _ (omega (arith, c.loop-p-test.true, (let h1 : c.pairs-end.result ≡ c.args.growers * c.args.pilots = c.pairs-end.ensures.1 (omega arith) (omega arith) in h1))) in h0)) c.requires.printable c.pair_numbers-numbers.ensures (omega (arith, c.pairs-end.ensures.2))
    c.requires.growers_bound.2 c.loop-p.invariant.1

pub loop-p-preserved : goal.loop-p-preserved
loop-p-preserved c = let a = c.args in (
  omega arith,
  turn_writes a.tariff_hours a.tariff_gain a.tariff_pay a.free_deal_hours a.joint_gain a.pay a.pilots
      c.loop-p.p _
      c.pair_numbers-numbers.ensures c.loop-p.invariant.1 c.pair_line-here.ensures,
)
