-- `method::turns::run` meets its contract. What a turn does is said by the laws of `TurnSteps`, and what holds between turns by those of
-- `Rounds`; here they get the facts that the code's places know.
use Rattle.std.specs.Prelude.{Option, None, Some}
use Rattle.std.proofs.Common.{ℕ, ◌<◌, refl, List, [], get_or, arith, rules}
use Rattle.market.specs.declared.Deal.{Deal}
use Rattle.market.specs.declared.Deal.TheVariants.{Free}
use Rattle.offers.specs.declared.Terms.{Terms}
use Rattle.offers.specs.declared.Agreed.{Agreed}
use Rattle.method.specs.View.{line, ticket, alone, held_in, held_by}
use Rattle.method.specs.Choice.{Asks}
use Rattle.method.specs.State.{Fit}
use Rattle.method.proofs.Asking.{asks_in}
use Rattle.method.proofs.LateSearch.{late_hours_found}
use Rattle.method.proofs.TurnLaws.{hours_fit, live_start}
use Rattle.method.proofs.PilotHours.{free-start}
use Rattle.method.proofs.Rounds.{Working, left, work_starts, next-grower}
use Rattle.method.proofs.Totals.{least_of}
use Rattle.method.proofs.TurnSteps.{Turn, turn_begins, free-given}
use Rattle.method.proofs.TurnSteps.{turn_still, none_late_still, late_given, price_risen}
use Rattle.method.proofs.turns.run.Goals as goal

-- a turn, and what its grower asked for by his rows
module _ (n m : ℕ) (grower_hours pilot_hours : List ℕ) (terms : List (List Terms)) (prices : List ℕ) (held : List (List Agreed))
    (free : List ℕ) (i k : ℕ) (asked : Option (ℕ × Deal × ℕ)) (fit : Fit (ticket n m grower_hours pilot_hours terms))
    (work : Working (ticket n m grower_hours pilot_hours terms) prices held free i k) (more : k < n)
    (asks : Asks (alone m (get_or grower_hours i 0) (get_or terms i [])) (line prices) (held_by (get_or held i [])) 0 asked) where
  asks_among_all : Asks (ticket n m grower_hours pilot_hours terms) (line prices) (held_in held) i asked
  asks_among_all = asks_in n m i grower_hours pilot_hours terms prices held (work.start (omega arith)) asked asks

-- the turn in which a grower asked for hours
turn_of : (n m : ℕ) (grower_hours pilot_hours : List ℕ) (terms : List (List Terms)) (prices : List ℕ) (held : List (List Agreed))
    (free : List ℕ) (i k j : ℕ) (d : Deal) (most : ℕ) → Fit (ticket n m grower_hours pilot_hours terms) →
    Working (ticket n m grower_hours pilot_hours terms) prices held free i k → k < n →
    Asks (alone m (get_or grower_hours i 0) (get_or terms i [])) (line prices) (held_by (get_or held i [])) 0 (Some (j, d, most)) →
    Turn (ticket n m grower_hours pilot_hours terms) prices held free i k j d most
    (left (ticket n m grower_hours pilot_hours terms) prices held k)
turn_of n m grower_hours pilot_hours terms prices held free i k j d most fit work more asks =
    turn_begins (ticket n m grower_hours pilot_hours terms) prices held free i k j d most fit work
    (asks_among_all n m grower_hours pilot_hours terms prices held free i k (Some (j, d, most)) fit work more asks)

-- Starting: nobody holds an hour.
pub turns-init : goal.turns-init
turns-init c =
    let z = c.no_hours-held.ensures in
    work_starts _ _ _ _ 0 (λ h. h)
    (live_start _ _ _ c.requires.fit c.requires.price_len.1 z.1 c.requires.price_len.0 z.0)
    (free-start _ _ c.args.pilot_hours (search rules) (λ j. refl) z.1)

-- None asked for.
pub turns-preserved-in_default : goal.turns-preserved-in_default
turns-preserved-in_default c =
    let a = c.args in
    let l = c.turns in
    let e = c.following-i.ensures in
    next-grower _ _ _ _ _ _ l.invariant _ c.turns-test.true e.0 e.1 e.2
    (asks_among_all a.sides.growers a.sides.pilots a.grower_hours a.pilot_hours a.terms l.price l.held l.free l.i l.k None c.requires.fit l.invariant
    c.turns-test.true c.in_default.ensures)

-- Giving: the pilot has free hours.
pub turns-smaller-then-unused-gt0 : goal.turns-smaller-then-unused-gt0
turns-smaller-then-unused-gt0 c =
    let a = c.args in
    let l = c.turns in
    let ask = c.in-Some in
    let turn = turn_of a.sides.growers a.sides.pilots a.grower_hours a.pilot_hours a.terms l.price l.held l.free l.i l.k ask.j ask.deal ask.most
    c.requires.fit l.invariant c.turns-test.true ask.ensures in
    (free-given turn (least_of _ _ _ c.min-x.ensures) c.more.ensures c.if-unused-gt0.true refl).1

pub turns-preserved-then-unused-gt0 : goal.turns-preserved-then-unused-gt0
turns-preserved-then-unused-gt0 c =
    let a = c.args in
    let l = c.turns in
    let ask = c.in-Some in
    let turn = turn_of a.sides.growers a.sides.pilots a.grower_hours a.pilot_hours a.terms l.price l.held l.free l.i l.k ask.j ask.deal ask.most
    c.requires.fit l.invariant c.turns-test.true ask.ensures in
    (free-given turn (least_of _ _ _ c.min-x.ensures) c.more.ensures c.if-unused-gt0.true refl).0

-- Late hours that are found are given; the search leaves all as it is.
pub turns-smaller-in-Some-late : goal.turns-smaller-in-Some-late
turns-smaller-in-Some-late c =
    let a = c.args in
    let l = c.turns in
    let ask = c.in-Some in
    let found = c.in-Some-late in
    let turn = turn_of a.sides.growers a.sides.pilots a.grower_hours a.pilot_hours a.terms l.price l.held l.free l.i l.k ask.j ask.deal ask.most
    c.requires.fit l.invariant c.turns-test.true ask.ensures in
    let late = late_hours_found a.sides.growers a.sides.pilots a.grower_hours a.pilot_hours a.terms l.price c.loop-giver.held ask.j c.loop-giver.giver
    found.given found.hours c.loop-giver-test.true found.ensures in
    (late_given (turn_still turn c.loop-giver.invariant.0) (least_of _ _ _ c.min-x-in-Some-late.ensures) c.more-in-Some-late.ensures late
    c.fewer.ensures).1

pub turns-preserved-in-Some-late : goal.turns-preserved-in-Some-late
turns-preserved-in-Some-late c =
    let a = c.args in
    let l = c.turns in
    let ask = c.in-Some in
    let found = c.in-Some-late in
    let turn = turn_of a.sides.growers a.sides.pilots a.grower_hours a.pilot_hours a.terms l.price l.held l.free l.i l.k ask.j ask.deal ask.most
    c.requires.fit l.invariant c.turns-test.true ask.ensures in
    let late = late_hours_found a.sides.growers a.sides.pilots a.grower_hours a.pilot_hours a.terms l.price c.loop-giver.held ask.j c.loop-giver.giver
    found.given found.hours c.loop-giver-test.true found.ensures in
    (late_given (turn_still turn c.loop-giver.invariant.0) (least_of _ _ _ c.min-x-in-Some-late.ensures) c.more-in-Some-late.ensures late
    c.fewer.ensures).0

-- Rising: the pilot has neither free hours nor late ones.
pub rise-after-requires-clause-by_index_2 : goal.rise-after-requires-clause-by_index_2
rise-after-requires-clause-by_index_2 c =
    let a = c.args in
    let l = c.turns in
    let ask = c.in-Some in
    let turn = turn_of a.sides.growers a.sides.pilots a.grower_hours a.pilot_hours a.terms l.price l.held l.free l.i l.k ask.j ask.deal ask.most
    c.requires.fit l.invariant c.turns-test.true ask.ensures in
    let still = turn_still turn c.loop-giver.invariant.0 in
    λ i hi. hours_fit _ _ _ still.fit still.live Free i _ hi still.want.pilot

pub turns-smaller : goal.turns-smaller
turns-smaller c =
    let a = c.args in
    let l = c.turns in
    let ask = c.in-Some in
    let turn = turn_of a.sides.growers a.sides.pilots a.grower_hours a.pilot_hours a.terms l.price l.held l.free l.i l.k ask.j ask.deal ask.most
    c.requires.fit l.invariant c.turns-test.true ask.ensures in
    let v = c.loop-giver.invariant in
    (price_risen a.sides.growers a.sides.pilots a.grower_hours a.pilot_hours a.terms (turn_still turn v.0) (omega (arith, c.if-unused-gt0.false))
    (omega (arith, c.loop-giver-test.false)) (none_late_still v.0 v.2) c.rise-after.ensures).1

pub turns-preserved : goal.turns-preserved
turns-preserved c =
    let a = c.args in
    let l = c.turns in
    let ask = c.in-Some in
    let turn = turn_of a.sides.growers a.sides.pilots a.grower_hours a.pilot_hours a.terms l.price l.held l.free l.i l.k ask.j ask.deal ask.most
    c.requires.fit l.invariant c.turns-test.true ask.ensures in
    let v = c.loop-giver.invariant in
    (price_risen a.sides.growers a.sides.pilots a.grower_hours a.pilot_hours a.terms (turn_still turn v.0) (omega (arith, c.if-unused-gt0.false))
    (omega (arith, c.loop-giver-test.false)) (none_late_still v.0 v.2) c.rise-after.ensures).0
