-- The number of an account that is lent tells the reply: `account_told`.
-- Assumes nothing.
use mathlib.Core.Path.{◌≡◌}
use mathlib.Core.List.{List}
use Prim.Native.Nat.{ℕ}
use native.Mathlib.Omega.{arith}
use Rattle.reader.specs.Answer.{reply}
use Rattle.accounts.specs.Accounted.{account_outcome}
use Rattle.c_answers.proofs.AccountLaws.{account_few}
use Rattle.exchange_c.specs.Replies.{reply_number, reply_of, Small}
use Rattle.exchange_c.proofs.ReplyLaws.{reply_small, number_tells}

pub account_small : (room : ℕ) (t s : List ℕ) → Small (reply room (account_outcome t s))
account_small room t s = reply_small room (account_outcome t s) (λ xs e. omega (arith, account_few t s xs e))

pub account_told : (room : ℕ) (t s : List ℕ) →
    reply_of (reply_number (reply room (account_outcome t s))) ≡ reply room (account_outcome t s)
account_told room t s = number_tells (reply room (account_outcome t s)) (account_small room t s)
