-- `sheets::sheet_settled` meets its contract: too little room is refused, else the printed page is copied.
use Rattle.std.specs.Prelude.{Ok}
use mathlib.Core.Path.{◌≡◌}
use Prim.Native.Nat.{◌*◌, ◌≤◌}
use native.Mathlib.Omega.{arith}
use lib.ListN.{length}
use Rattle.reader.proofs.Facts.{unpacked_shape}
use Rattle.tables.specs.View.{growers_of, pilots_of}
use Rattle.sheets.specs.Sheeted.{room_for_sheet}
use Rattle.sheets.proofs.PrintLaws.{room_in_page, end_within, sheeted_copied}
use Rattle.sheets.proofs.sheet_settled.Goals as goal

pub copy-requires : goal.copy-requires
copy-requires c = end_within c.print_settled-end.ensures c.blank-page.ensures
    (room_in_page c.args.ticket.now _ c.requires) _
    ((let h0 : room_for_sheet (Ok c.args.numbers.now)
    ≤ length c.args.text.now = omega (
      arith,
      (let h1 : c.pairs-pairs.result
          ≡ growers_of c.args.numbers.now * pilots_of
          c.args.numbers.now = let s = unpacked_shape c.args.ticket.now _ c.requires in
          let counted = c.pairs-pairs.ensures.1 (omega (arith, c.growers-growers.ensures.0, s.growers)) (omega (arith, c.pilots-pilots.ensures.0, s.pilots)) in
          cc (counted, c.growers-growers.ensures.0, c.pilots-pilots.ensures.0) in h1),
      c.if-text-pairs.false,
    ) in h0))

pub returns : goal.returns
returns c = sheeted_copied c.print_settled-end.ensures
    c.blank-page.ensures
    (room_in_page c.args.ticket.now _ c.requires) _ _ ((let h0 : room_for_sheet (Ok c.args.numbers.now)
    ≤ length c.args.text.now = omega (
      arith,
      (let h1 : c.pairs-pairs.result
          ≡ growers_of c.args.numbers.now * pilots_of
          c.args.numbers.now = let s = unpacked_shape c.args.ticket.now _ c.requires in
          let counted = c.pairs-pairs.ensures.1 (omega (arith, c.growers-growers.ensures.0, s.growers)) (omega (arith, c.pilots-pilots.ensures.0, s.pilots)) in
          cc (counted, c.growers-growers.ensures.0, c.pilots-pilots.ensures.0) in h1),
      c.if-text-pairs.false,
    ) in h0))
    c.copy.ensures
