use Rattle.grid.proofs.ZeroSquares.{zero_grid, zero_square}
use Rattle.grid.proofs.zeros.Goals as goal

pub returns : goal.returns
returns c = (zero_square, zero_grid 16 16)
