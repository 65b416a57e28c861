-- `lists::text::walk` meets its contract: after k turns the bytes that are left, read from here on, make the whole text.
use Prim.Native.Nat.{ℕ, ◌+◌}
use mathlib.Core.Path.{sym, ap, ◌∙◌}
use native.Mathlib.Omega.{arith}
use Rattle.lists.proofs.NumberLaws.{reading_turns, reading_stops}
use Rattle.lists.proofs.NumberLaws.{reading_done}
use Rattle.lists.proofs.text.walk.Goals as goal

pub returns-in_default : goal.returns-in_default
returns-in_default c = let kind = c.kind_of-kind in
    reading_stops c.loop-b.invariant.2 _ kind.result (omega arith) kind.ensures
    (sym c.next_mode.ensures ∙ c.in_default.is)

pub loop-b-preserved : goal.loop-b-preserved
loop-b-preserved c = let i = c.loop-b in
    let kind = c.kind_of-kind in
    let goes = sym c.next_mode.ensures ∙
    c.in-Some.is in
    let e = c.ended.ensures in
    let stored = c.store-count.ensures in
    let lines = ap (λ (n : ℕ). i.passed + n) c.line_ends-passed.ensures.0 in (
      i.invariant.0,
      omega arith,
      reading_turns i.invariant.2 _ kind.result _ _ _ (omega arith) kind.ensures goes (rw e at stored.1)
          (rw e at stored.0) lines,
    )

pub returns : goal.returns
returns c = let stored = c.store.ensures in
    let last = c.last in
    reading_done c.loop-b.invariant.2 _ last.result _ (omega arith) last.ensures
    stored.1 stored.0
