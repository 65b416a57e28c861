-- `exchange_c::exchange_account` meets its contract: the account's reply as a number, and the list that is lent.
use Rattle.exchange_c.proofs.AccountLaws.{account_small}
use Rattle.exchange_c.proofs.exchange_account.Goals as goal

pub reply_number-requires : goal.reply_number-requires
reply_number-requires c = rw c.lend_account.ensures.value (account_small _ _ _)
