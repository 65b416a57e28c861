-- `settler::settle_list` meets its contract.
use Prim.Native.Nat.{min}
use mathlib.Core.Path.{◌≡◌, ap, ◌∙◌}
use native.Mathlib.Omega.{arith}
use Rattle.grid.proofs.Filling.{filled_zeros}
use Rattle.tables.specs.View.{growers_of, pilots_of}
use Rattle.tables.proofs.Meaning.{first-same}
use Rattle.settler.proofs.ListLaws.{blank}
use Rattle.settler.proofs.SettlementNumbers.{settled_list}
use Rattle.settler.proofs.settle_list.Goals as goal

pub list_settlement-requires : goal.list_settlement-requires
list_settlement-requires c = let list = c.settlement_list-list.ensures in
    (blank _ list.0 list.1, omega (arith, c.within-growers.ensures.1), omega (arith, c.within-pilots.ensures.1))

pub returns : goal.returns
returns c = let xs = c.args.ticket.now in
    let n = c.within-growers.result in
    let m = c.within-pilots.result in
    let en : n ≡ min 16 (growers_of xs) = c.within-growers.ensures.0 ∙ ap (min 16) c.growers.ensures.0 in
    let em : m ≡ min 16 (pilots_of xs) = c.within-pilots.ensures.0 ∙ ap (min 16) c.pilots.ensures.0 in
    let same = first-same xs (min 16 n) (min 16 m) (omega (arith, en)) (omega (arith, em)) (record {
      grower_hours_in = c.hours-grower_hours.ensures;
      pilot_hours_in = c.hours-pilot_hours.ensures;
      tariff_cap_in = filled_zeros _ _ _ _ _ c.zeros-tariff_cap.ensures.1 c.fill.ensures;
      tariff_gain_in = filled_zeros _ _ _ _ _ c.zeros-tariff_gain.ensures.1 c.fill-2.ensures;
      tariff_pay_in = filled_zeros _ _ _ _ _ c.zeros-tariff_pay.ensures.1 c.fill-3.ensures;
      free_cap_in = filled_zeros _ _ _ _ _ c.zeros-free_cap.ensures.1 c.fill-4.ensures;
      joint_gain_in = filled_zeros _ _ _ _ _ c.zeros-joint_gain.ensures.1 c.fill-5.ensures;
    }) in
    let l = c.list_settlement.ensures in
    settled_list xs _ same _ _ _ c.settle_squares.ensures _ l.0 n m en em l.1
