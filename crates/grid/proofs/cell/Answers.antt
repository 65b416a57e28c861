-- `grid::cell` meets its contract: outside the square stands 0.
use mathlib.Core.Path.{sym}
use native.Mathlib.Omega.{arith}
use Rattle.grid.proofs.Squares.{square_is, at_beside}
use Rattle.grid.proofs.cell.Goals as goal

pub returns-else-j-lt-SIDE : goal.returns-else-j-lt-SIDE
returns-else-j-lt-SIDE c = sym (at_beside _ (square_is c.args.sq _ c.well_formed.0) _ _ (omega arith))
