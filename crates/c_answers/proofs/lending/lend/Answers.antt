-- `c_answers::lending::lend` meets its contract: the list is too short, or the first numbers of the account are copied.
use native.Mathlib.Omega.{arith}
use borrow.Author.Rules.{rules}
use Rattle.c_answers.proofs.AccountLaws.{too_short, lent_whole}
use Rattle.c_answers.proofs.lending.lend.Goals as goal

pub returns-then-list-count : goal.returns-then-list-count
returns-then-list-count c =
    let both = too_short c.args.list.now c.args.account.list _ (search rules) c.requires c.if-list-count.true in
    record { value = both.0; list_after = both.1 }

pub returns : goal.returns
returns c =
    let both = lent_whole c.args.list.now c.args.account.list _ (search rules) c.requires _ (omega arith) c.copy_front.ensures in
    record { value = both.0; list_after = both.1 }
