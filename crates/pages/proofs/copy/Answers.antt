-- `pages::copy` meets its contract: the bytes stand between what was before them and what was after.
use mathlib.Core.Path.{refl}
use Rattle.pages.proofs.PutLaws.{copied}
use Rattle.pages.proofs.copy.Goals as goal

pub returns : goal.returns
returns c = record { stored = rw c.copy_from_slice.ensures.after (copied c.args.page.now c.args.words.now c.args.at c.requires); ends = refl }
