-- `draws::generator::next` meets its contract: a step is a product.
use Rattle.draws.specs.Generator.{next}
use Rattle.draws.proofs.generator.next.Goals as goal

pub returns : goal.returns
unfolding next
returns c = c.times.ensures
