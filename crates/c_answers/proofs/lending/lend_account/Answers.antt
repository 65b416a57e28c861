-- `c_answers::lending::lend_account` meets its contract: the account is refused, or lent.
use Rattle.scanning.proofs.Running.{met_is}
use Rattle.c_answers.proofs.AccountLaws.{account_refused, account_listed, account_fits}
use Rattle.c_answers.proofs.lending.lend_account.Goals as goal

pub lend-requires : goal.lend-requires
lend-requires c = account_fits _ _ _ c.in_ok-account.ensures.value

pub returns-in_err-account : goal.returns-in_err-account
returns-in_err-account c =
    let e = account_refused _ _ _ c.in_err-account.ensures.value in
    let r = met_is c.from_residual.result _ c.from_residual.ensures.1 in
    record { value = rw (r, e); list_after = rw e }

pub returns : goal.returns
returns c =
    let e = account_listed _ _ _ c.in_ok-account.ensures.value in
    record { value = rw e c.lend.ensures.value; list_after = rw e c.lend.ensures.list_after }
