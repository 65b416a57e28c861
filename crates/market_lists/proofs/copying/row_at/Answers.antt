-- `market_lists::copying::row_at` meets its contract: the part is written over a row of zeros.
use Prim.Native.Nat.{◌+◌, ◌-◌}
use mathlib.Core.Path.{◌≡◌}
use native.Mathlib.Omega.{arith}
use Rattle.market_lists.proofs.LentLaws.{part_copied}
use Rattle.market_lists.proofs.copying.row_at.Goals as goal

pub returns : goal.returns
returns c = let e : c.args.at + 16 - c.args.at ≡ 16 = omega arith in
    part_copied 16 c.args.at c.args.list.now c.zero_row-row.result _ c.requires c.zero_row-row.ensures.0.long
    (rw e at c.copy_at.ensures.list_after)
