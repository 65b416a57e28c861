-- `market_lists::copying::copy_at` meets its contract: the numbers stand between what was before them and what was after.
use Rattle.pages.proofs.PutLaws.{copied}
use Rattle.market_lists.proofs.copying.copy_at.Goals as goal

pub returns-clause-list_after : goal.returns-clause-list_after
returns-clause-list_after c = rw c.copy_from_slice.ensures.after (copied c.args.list.now c.args.numbers.now c.args.at c.requires)
