-- `reader::copy::scan_list` meets its contract: what passes is a document, whole. Assumes nothing.
use mathlib.Core.Path.{sym, ◌∙◌}
use Rattle.passing.proofs.Accepting.{passes_whole}
use Rattle.reader.proofs.copy.scan_list.Goals as goal

pub returns-then-passes : goal.returns-then-passes
returns-then-passes c = rw (passes_whole _ _ (sym c.passes.ensures ∙ c.if-passes.true))
