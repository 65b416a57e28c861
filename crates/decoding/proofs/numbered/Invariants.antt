-- `decoding::numbered` meets its contract: what was found of the bytes that were looked at, and what is to be found of the rest, decide.
use mathlib.Core.Bool.{◌&&◌}
use mathlib.Core.Path.{◌≡◌}
use Prim.Native.Nat.{◌≤◌}
use lib.ListN.{length, drop}
use Rattle.decoding.specs.Numbered.{numbered_after}
use Rattle.decoding.proofs.numbered.Given as goal

abbrev pub invariant-loop-b : goal.invariant-loop-b
invariant-loop-b l =
    (l.b-index-end ≡ length l.s) × (l.b-index ≤ length l.s) × ((l.well && numbered_after l.prior (drop l.b-index l.s)) ≡ numbered_after 0 l.s)
