-- `sheets::lines::separator_at` meets its contract: a space where another number follows, else the end of the line.
use Rattle.ascii.proofs.LineLaws.{separator_inside}
use Rattle.sheets.proofs.lines.separator_at.Goals as goal

pub returns-then-place-numbers : goal.returns-then-place-numbers
returns-then-place-numbers c = separator_inside c.args.numbers.now c.args.place c.if-place-numbers.true
