-- `passing::hours_pass` meets its contract: whether the hours of the parties that were looked at pass. Assumes nothing.
use mathlib.Core.Path.{◌≡◌}
use Prim.Native.Nat.{◌≤◌}
use Rattle.passing.specs.Passes.{hours_pass}
use Rattle.passing.proofs.hours_pass.Given as goal

abbrev pub invariant-loop-hours : goal.invariant-loop-hours
invariant-loop-hours l = (l.hours-index ≤ l.parties) × (l.pass ≡ hours_pass l.list l.hours-index)
