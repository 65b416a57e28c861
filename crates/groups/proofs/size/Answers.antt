-- `groups::size` meets its contract: a number of 16 bits has one, two or three bytes. Assumes nothing.
use native.Mathlib.Omega.{arith}
use Rattle.groups.proofs.GroupLaws.{one_byte, two_bytes, three_bytes}
use Rattle.groups.proofs.size.Goals as goal

pub returns-then-x-lt128 : goal.returns-then-x-lt128
returns-then-x-lt128 c = one_byte _ c.if-x-lt128.true

pub returns-then-x-lt16384 : goal.returns-then-x-lt16384
returns-then-x-lt16384 c = two_bytes c.args.x (omega arith) (omega arith)

pub returns-else-x-lt16384 : goal.returns-else-x-lt16384
returns-else-x-lt16384 c = three_bytes c.args.x (omega arith) (omega arith)
