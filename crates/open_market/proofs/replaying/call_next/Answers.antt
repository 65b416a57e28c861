-- `open_market::replaying::call_next` meets its contract: the call is done, or refused.
use Rattle.open_market.proofs.Histories.{next_done, next_refused}
use Rattle.open_market.proofs.replaying.call_next.Goals as goal

pub returns-in-Ok : goal.returns-in-Ok
returns-in-Ok c = next_done _ _ _ _ c.call_from.ensures _ c.in-Ok.is

pub returns-in-Err : goal.returns-in-Err
returns-in-Err c = next_refused _ _ _ _ c.call_from.ensures _ _ c.in-Err.is c.and.ensures
