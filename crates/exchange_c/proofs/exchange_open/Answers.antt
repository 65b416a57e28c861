-- `exchange_c::exchange_open` meets its contract: the reply as a number, whose count is small.
use Rattle.exchange_c.proofs.MarketLaws.{open_small}
use Rattle.exchange_c.proofs.exchange_open.Goals as goal

pub reply_number-requires : goal.reply_number-requires
reply_number-requires c = open_small _ _ _ _ c.open.ensures
