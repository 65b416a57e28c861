-- `layouts::reading::walk` meets its contract: after k turns the numbers that are left, read from here on, make the whole.
use mathlib.Core.Path.{◌∙◌}
use native.Mathlib.Omega.{arith}
use lib.ListN.{length-set}
use Rattle.layouts.proofs.WalkLaws.{walking_ends, walking_full, walking_stops, walking_turns}
use Rattle.layouts.proofs.reading.walk.Goals as goal

pub returns-then-text-at : goal.returns-then-text-at
returns-then-text-at c = let i = c.loop-k.invariant in
    record { walked_as = walking_ends i.1 (omega arith) (omega arith) c.if-text-at.true; list_len_unchanged = i.2 }

pub returns-in_default : goal.returns-in_default
returns-in_default c = let i = c.loop-k in
    let named = c.front-named.ensures in
    let got = rw (c.entry-growers.ensures, c.entry-pilots.ensures, named) at c.entry_at.ensures in
    record { walked_as = walking_stops i.invariant.1 (omega arith) (omega arith) (omega arith) (rw c.in_default.is at got); list_len_unchanged = i.invariant.2 }

pub loop-k-preserved : goal.loop-k-preserved
loop-k-preserved c = let i = c.loop-k in
    let named = c.front-named.ensures in
    let got = rw (c.entry-growers.ensures, c.entry-pilots.ensures, named) at c.entry_at.ensures in
    (omega arith, walking_turns i.invariant.1 (omega arith) (omega arith) (omega arith) _ _ (rw c.in-Some.is at got), length-set i.list i.k c.in-Some.value ∙ i.invariant.2)

pub returns : goal.returns
returns c = record { walked_as = walking_full c.loop-k.invariant.1 (omega arith); list_len_unchanged = c.loop-k.invariant.2 }
