-- What an account comes to for a list that C lends.
-- Assumes nothing.
use Rattle.std.specs.Prelude.{Ok, take}
use Rattle.reader.specs.Walk.{Outcome}
use Rattle.accounts.specs.declared.listing.Account.{Account}

-- the numbers that are listed
abbrev pub listed : Account → Outcome
listed account = Ok (take account.count account.list)
