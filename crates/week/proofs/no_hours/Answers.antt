-- `week::no_hours` meets its contract.
use mathlib.Core.Bool.{false}
use lib.ListN.{get_or-replicate}
use Rattle.week.proofs.no_hours.Goals as goal

pub returns : goal.returns
returns c h l = get_or-replicate 168 h false false l
