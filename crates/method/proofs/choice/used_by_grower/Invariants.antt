-- `method::choice::used_by_grower` meets its contract.
use Prim.Native.Nat.{◌+◌, ◌*◌, ◌≤◌}
use mathlib.Core.Path.{◌≡◌}
use Rattle.grid.specs.Sum.{sum}
use Rattle.method.specs.View.{agreed_in}
use Rattle.method.proofs.choice.used_by_grower.Given as goal

abbrev pub invariant-loop-pair : goal.invariant-loop-pair
invariant-loop-pair l = (l.pair-index ≤ l.fn.sides.pilots) × (l.total ≤ 196608 * l.pair-index) ×
    (l.total ≡ sum (λ p. (agreed_in l.fn.agreed p).by_tariff + ((agreed_in l.fn.agreed p).old_free + (agreed_in l.fn.agreed p).new_free)) l.pair-index)
