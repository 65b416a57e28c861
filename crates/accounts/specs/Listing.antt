-- What the steps between files and their account know and leave.
-- Assumes nothing.
use Rattle.std.specs.Prelude.{Result, Ok, Err}
use Rattle.checks.specs.declared.refusals.Refusal.{Refusal}
use Rattle.std.specs.Prelude.{ℕ, ◌≡◌, List, ◌++◌, length}
use Rattle.market.specs.Market as market
use Rattle.reader.specs.Walk.{Outcome}
use Rattle.reader.specs.Answer.{unpacked, settlement_read}
use Rattle.tables.specs.View.{growers_of, pilots_of, ticket_of, settlement_of}
use Rattle.accounts.specs.declared.listing.Account.{Account}
use Rattle.accounts.specs.Accounted.{account_numbers, padded, account_in}

-- After so many numbers, whatever they are, those of ys were listed.
abbrev pub Listed : List ℕ → List ℕ → ℕ → List ℕ → Type 0
Listed before after from ys = (xs : List ℕ) → length xs ≡ from → before ≡ padded xs → after ≡ padded (xs ++ ys)

-- xs are the numbers of a ticket, and the bytes are those of a sound settlement of it.
pub record SoundFor (xs settlement : List ℕ) : Type 0 where
  pub bytes : List ℕ
  pub is_ticket : unpacked bytes ≡ Ok xs
  pub answer : List ℕ
  pub is_settlement : settlement_read (growers_of xs) (pilots_of xs) settlement ≡ Ok answer
  pub sound : market.Sound (ticket_of xs) (settlement_of answer)

-- the account of a ticket's numbers and of what was read of a settlement
abbrev pub account_of : List ℕ → Outcome → Result Account Refusal
account_of xs (Err w) = account_in (Err w)
account_of xs (Ok ys) = account_in (Ok (account_numbers (ticket_of xs) (settlement_of ys)))
