-- `method::given::terms_square` meets its contract: the square is filled row by row.
use Prim.Native.Nat.{◌≤◌}
use mathlib.Core.Path.{◌≡◌}
use Rattle.grid.proofs.Sixteens.{MadeTo}
use Rattle.method.specs.View.{no_terms}
use Rattle.method.specs.Given.{terms_from}
use Rattle.method.proofs.given.terms_square.Given as goal

abbrev pub invariant-loop-j : goal.invariant-loop-j
invariant-loop-j l = (l.j ≤ l.fn.sides.pilots) ×
    MadeTo no_terms (λ a b terms. terms ≡ terms_from l.tariff_cap l.tariff_gain l.tariff_pay l.free_cap l.joint_gain a b) l.fn.sides.pilots l.i l.j l.square

abbrev pub invariant-loop-i : goal.invariant-loop-i
invariant-loop-i l = (l.i ≤ l.fn.sides.growers) ×
    MadeTo no_terms (λ a b terms. terms ≡ terms_from l.tariff_cap l.tariff_gain l.tariff_pay l.free_cap l.joint_gain a b) l.fn.sides.pilots l.i 0 l.square
