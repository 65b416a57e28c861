-- `draws::generator::start` meets its contract: three products make the fifth power.
use mathlib.Core.Path.{◌∙◌}
use Rattle.draws.specs.Generator.{start}
use Rattle.draws.proofs.generator.start.Goals as goal

pub returns : goal.returns
unfolding start
returns c = c.times-2.ensures ∙ rw (c.times.ensures, c.times-square.ensures)
