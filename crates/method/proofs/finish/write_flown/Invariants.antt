-- `method::finish::write_flown` meets its contract.
use Prim.Native.Nat.{◌≤◌}
use Rattle.grid.proofs.Filling.{Part, RowPart}
use Rattle.market.specs.declared.Deal.TheVariants.{Tariff, Free}
use Rattle.market.specs.Method.{hours_of}
use Rattle.method.specs.View.{held_in}
use Rattle.method.specs.Result.{pays_of}
use Rattle.method.proofs.finish.write_flown.Given as goal

abbrev pub invariant-loop-j : goal.invariant-loop-j
invariant-loop-j l = (l.j ≤ l.fn.sides.pilots) × RowPart (hours_of (held_in l.held) Tariff) l.fn.sides.pilots l.i l.j l.initial.tariff_hours l.tariff_hours ×
    RowPart (hours_of (held_in l.held) Free) l.fn.sides.pilots l.i l.j l.initial.free_deal_hours l.free_deal_hours × RowPart (pays_of l.held l.price l.shift) l.fn.sides.pilots l.i l.j l.initial.pay l.pay

abbrev pub invariant-loop-i : goal.invariant-loop-i
invariant-loop-i l = (l.i ≤ l.fn.sides.growers) × Part l.initial.tariff_hours (hours_of (held_in l.held) Tariff) l.fn.sides.pilots l.i 0 l.tariff_hours ×
    Part l.initial.free_deal_hours (hours_of (held_in l.held) Free) l.fn.sides.pilots l.i 0 l.free_deal_hours × Part l.initial.pay (pays_of l.held l.price l.shift) l.fn.sides.pilots l.i 0 l.pay
