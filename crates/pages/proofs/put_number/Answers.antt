-- `pages::put_number` meets its contract: the digits that stand at the array's end are the number's.
use Rattle.std.proofs.Common.{◌≡◌, ◌-◌, take, drop, arith}
use Rattle.ascii.specs.Numeral.{numeral}
use Rattle.ascii.proofs.PageWriting.{wrote_part}
use Rattle.pages.proofs.put_number.Goals as goal

pub returns : goal.returns
returns c =
    -- what is put
    let digits_are : take (20 - c.numeral-first.result) (drop c.numeral-first.result c.numeral-first.new.digits) ≡ numeral c.args.n =
    wrote_part c.numeral-first.ensures (omega arith) in
    rw (← digits_are) c.put.ensures
