-- `checks::hours::has_none` meets its contract: a shift brings the digit to the end.
use Rattle.std.proofs.Common.{arith}
use Rattle.checks.proofs.HourLaws.{none_beyond}
use Rattle.checks.proofs.hours.has_none.Goals as goal

pub returns-else-others-lt-DIGITS : goal.returns-else-others-lt-DIGITS
returns-else-others-lt-DIGITS c = none_beyond c.args.without c.args.others (omega arith) c.if-others-lt-DIGITS.false
