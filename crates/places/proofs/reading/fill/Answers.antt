-- `places::reading::fill` meets its contract: the invariant is `Reading`: the numbers that are left are read from here on.
use mathlib.Core.Path.{◌≡◌, sym, ap, ◌∙◌}
use Prim.Native.Nat.{ℕ}
use native.Mathlib.Omega.{arith}
use lib.ListN.{length, take}
use Rattle.places.proofs.ReadingLaws.{reading_ends, reading_stops, reading_word, reading_turns}
use Rattle.places.proofs.reading.fill.Goals as goal

pub returns-in_default : goal.returns-in_default
returns-in_default c = reading_stops c.loop-k.invariant c.number-got.result (omega (arith, c.loop-k-test.true))
    c.number-got.ensures
    (λ x p e. absurd (c.in_default.not-Number x p e))

pub overflow_cast-list : goal.overflow_cast-list
overflow_cast-list c = let e = sym c.in-Number.is ∙ c.number-got.ensures in
    record {
      fits = reading_word c.loop-k.invariant _ _ (omega (arith, c.loop-k-test.true)) e
          (λ i. omega (arith, c.type_inv.s i));
    }

pub loop-k-preserved : goal.loop-k-preserved
loop-k-preserved c = let e = sym c.in-Number.is ∙ c.number-got.ensures in
    reading_turns c.loop-k.invariant _ _ (omega (arith, c.loop-k-test.true)) e

pub returns : goal.returns
returns c = let i = c.loop-k in
    let all : length i.list ≡ i.k = omega (arith, i.invariant.long, i.invariant.turns, c.loop-k-test.false) in
    ap (λ (n : ℕ). take n i.list) all ∙ reading_ends i.invariant (omega (arith, c.loop-k-test.false))
