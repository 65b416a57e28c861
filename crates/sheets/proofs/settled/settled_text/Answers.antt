-- `sheets::settled::settled_text` meets its contract: header, lines and last line are the sheet of the two lists.
use native.Mathlib.Omega.{arith}
use Rattle.ascii.specs.Writing.{Wrote}
use Rattle.sheets.specs.Sheet.{head_of}
use Rattle.sheets.proofs.SheetLaws.{few_growers, few_pilots, head_short, last_fits, sheet_whole}
use Rattle.sheets.proofs.settled.settled_text.Goals as goal

pub header-next-requires : goal.header-next-requires
header-next-requires c = let t = c.requires.paired.settles in
    (omega (arith, c.entry.ensures, few_growers t), omega (arith, c.entry-2.ensures, few_pilots t))

pub lines_between-last-requires : goal.lines_between-last-requires
lines_between-last-requires c = (
  c.requires.paired,
  head_short
      c.args.ticket.now ((let h0 : Wrote c.args.page.now c.header-next.new.page 0
      c.header-next.result (head_of c.args.ticket.now) = rw (c.entry.ensures, c.entry-2.ensures) at c.header-next.ensures in h0)),
)

pub counted-requires : goal.counted-requires
counted-requires c = last_fits c.requires
    (head_short c.args.ticket.now ((let h0 : Wrote c.args.page.now c.header-next.new.page 0
    c.header-next.result (head_of c.args.ticket.now) = rw (c.entry.ensures, c.entry-2.ensures) at c.header-next.ensures in h0)))
    c.lines_between-last.ensures

pub returns : goal.returns
returns c = sheet_whole
    c.requires
    ((let h0 : Wrote c.args.page.now c.header-next.new.page 0
    c.header-next.result (head_of c.args.ticket.now) = rw (c.entry.ensures, c.entry-2.ensures) at c.header-next.ensures in h0))
    c.lines_between-last.ensures
    c.counted.ensures
