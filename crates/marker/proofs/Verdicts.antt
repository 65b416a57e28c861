-- The verdict of each walk, from what its search found.
-- Assumes nothing.
use Rattle.std.specs.Prelude.{None, Option, Some}
use Prim.Native.Nat.{ℕ, ◌+◌, ◌*◌, ◌<◌, ◌≤◌, min}
use mathlib.Core.Path.{◌≡◌, refl, sym, ◌∙◌}
use mathlib.Core.Bool.{Bool, true, false}
use native.Mathlib.Omega.{arith}
use lib.Dec.{ltb}
use lib.ListN.{get_or}
use borrow.Author.Tests.{lt-ltb, le-ltb}
use Rattle.grid.specs.First.{NoneBefore, first}
use Rattle.grid.proofs.Cases.{never}
use Rattle.grid.proofs.FirstPlaces.{none_more, first_is}
use Rattle.grid.proofs.Places.{cell_place, deal_place, row_within}
use Rattle.market.specs.declared.Deal.{Deal}
use Rattle.market.specs.Market.{Ticket, Settlement}
use Rattle.verdicts.specs.declared.Verdict.{Verdict}
use Rattle.verdicts.specs.declared.Verdict.TheVariants.{Sound, GrowerOverHours, PilotOverHours}
use Rattle.verdicts.specs.Tests.{lines}
use Rattle.verdicts.specs.Faults.{found_if, deal_fault}
use Rattle.marker.specs.declared.Party.{Party}
use Rattle.marker.specs.Verdict.{by_pair, walk, pairs, wrong_pair, pair_verdict, pair_fault_at, grower_over, pilot_over, wrong_deal}
use Rattle.marker.specs.Verdict.{deal_number, deal_verdict, deal_fault_at, deal_verdict_at, deals_judged, hours_judged}
use Rattle.marker.specs.Tables.{first_found, spare_in, deal_found}
use Rattle.marker.proofs.DealNumbers.{deal_of_number, number_small}
use Rattle.marker.proofs.Walks.{walk_found, walk_on}

-- what is found of a test
pub found_holds : (b : Bool) (v w : Verdict) (r : Option Verdict) → r ≡ found_if b v → r ≡ Some w → (b ≡ true) × (w ≡ v)
found_holds true v w r e f = (refl, cc)
found_holds false v w r e f = never cc

pub found_fails : (b : Bool) (v : Verdict) (r : Option Verdict) → r ≡ found_if b v → r ≡ None → b ≡ false
found_fails true v r e f = never cc
found_fails false v r e f = refl

-- what is found of a deal by the numbers of its parties, on its hours and its cap
module _ (d : Deal) (g p : Party) (n m i j cap joint_gain hours bound : ℕ) (eh : hours ≡ lines g.tariff g.free d j)
    (ec : bound ≡ cap) where
  -- at its cap nothing, whatever the spares
  pub at_cap : bound ≤ hours → None ≡ deal_found d g p n m i j cap joint_gain
  at_cap h = rw (← eh, ← ec, le-ltb hours bound h)

  pub below-cap : (count : ℕ) → count ≡ 2 * (i * m + j) + deal_number d + 1 → (of_grower of_pilot : Option ℕ) → of_grower ≡ spare_in g m d j →
      of_pilot ≡ spare_in p n d i → (r : Option Verdict) →
      r ≡ deal_fault i j d count hours bound g.unused p.unused of_grower of_pilot (get_or g.earned j 0) (get_or p.earned i 0)
      joint_gain →
      r ≡ deal_found d g p n m i j cap joint_gain
  below-cap count e of_grower of_pilot eg ep r f = rw (e, eh, ec, eg, ep) at f

module _ (test : ℕ → Bool) (k : ℕ) (verdict : ℕ → Verdict) where
  -- a walk that stops at place p, and one that goes on to its end
  pub found_first : (p : ℕ) → NoneBefore test p → p < k → test p ≡ true → (v : Verdict) → v ≡ verdict p → Some v ≡ first_found test k verdict
  found_first p before h here v e =
      let f : first test k ≡ p = first_is test k p (omega arith) before (λ _. here) in rw (f, lt-ltb p k h, e)

  pub found_none : NoneBefore test k → None ≡ first_found test k verdict
  found_none all =
      let f : first test k ≡ k = first_is test k k (omega arith) all (λ h. absurd (omega arith)) in
      rw (f, le-ltb k k (omega arith))

  -- the verdict of a walk by what was found
  pub walk_fault : (after v : Verdict) (r : Option Verdict) → r ≡ first_found test k verdict → r ≡ Some v → v ≡ walk test k verdict after
  walk_fault after v r e f =
      let h = found_holds (ltb (first test k) k) (verdict (first test k)) v r e f in rw h.0 h.1

  pub walk_none : (after : Verdict) (r : Option Verdict) → r ≡ first_found test k verdict → r ≡ None → after ≡ walk test k verdict after
  walk_none after r e f = rw (found_fails (ltb (first test k) k) (verdict (first test k)) r e f)

module _ (t : Ticket) (x : Settlement) where
  -- what is found of a pair, at its place
  pub pair_found : (i j : ℕ) → j < t.pilots → (r : Option Verdict) → r ≡ found_if (wrong_pair t x i j) (pair_verdict t x i j) →
      r ≡ found_if (pair_fault_at t x (i * t.pilots + j)) (by_pair (pair_verdict t x) t.pilots (i * t.pilots + j))
  pair_found i j hj r f = let e = cell_place t.pilots i j hj in rw (e.0, e.1) f

  -- growers, then pilots
  pub grower-judged : (worth i : ℕ) → i ≡ first (grower_over t x) t.growers → i < t.growers → GrowerOverHours i ≡ hours_judged t x worth
  grower-judged worth i e h = walk_found (grower_over t x) t.growers GrowerOverHours _ i e h

  module _ (worth i : ℕ) (ei : i ≡ first (grower_over t x) t.growers) (hi : t.growers ≤ i) (j : ℕ)
      (ej : j ≡ first (pilot_over t x) t.pilots) where
    pub pilot-judged : j < t.pilots → PilotOverHours j ≡ hours_judged t x worth
    pilot-judged h =
        walk_found (pilot_over t x) t.pilots PilotOverHours (deals_judged t x worth) j ej h
        ∙ walk_on (grower_over t x) t.growers GrowerOverHours _ i ei hi

    pub hours-judged : t.pilots ≤ j → deals_judged t x worth ≡ hours_judged t x worth
    hours-judged h =
        walk_on (pilot_over t x) t.pilots PilotOverHours (deals_judged t x worth) j ej h
        ∙ walk_on (grower_over t x) t.growers GrowerOverHours _ i ei hi

  -- deals
  pub deals_judged_lem : (worth : ℕ) → NoneBefore (deal_fault_at t x) (2 * pairs t) → (v : Verdict) → v ≡ Sound (2 * pairs t) worth →
      v ≡ deals_judged t x worth
  deals_judged_lem worth all v e =
      e ∙ walk_on (deal_fault_at t x) (2 * pairs t) (deal_verdict_at t x) (Sound (2 * pairs t) worth) (2 * pairs t)
      (sym (first_is _ _ _ (omega arith) all (λ h. absurd (omega arith)))) (omega arith)

  module _ (i j : ℕ) (hi : i < t.growers) (hj : j < t.pilots) (d : Deal) where
    abbrev place : ℕ
    place = 2 * (i * t.pilots + j) + deal_number d

    -- what is found of a deal, at its place
    deal_found_lem : (r : Option Verdict) → r ≡ found_if (wrong_deal t x d i j) (deal_verdict t x (place + 1) i j d) →
        r ≡ found_if (deal_fault_at t x place) (deal_verdict_at t x place)
    deal_found_lem r f = let e = deal_place t.pilots i j (deal_number d) hj (number_small d) in rw (e.0, e.1, e.2, deal_of_number d) f

    module _ (before : NoneBefore (deal_fault_at t x) place) (r : Option Verdict)
        (f : r ≡ found_if (wrong_deal t x d i j) (deal_verdict t x (place + 1) i j d)) where
      -- it is at fault, or passed by
      pub deal_judged : (worth : ℕ) (v : Verdict) → r ≡ Some v → v ≡ deals_judged t x worth
      deal_judged worth v e =
          let h = found_holds _ _ v r (deal_found_lem r f) e in
          let below : place < 2 * pairs t = omega (arith, row_within i t.growers t.pilots hi, number_small d) in
          h.1 ∙ walk_found (deal_fault_at t x) (2 * pairs t) (deal_verdict_at t x) (Sound (2 * pairs t) worth) place
          (sym (first_is _ _ place (omega arith) before (λ _. h.0))) below

      pub deal_passed : r ≡ None → NoneBefore (deal_fault_at t x) (place + 1)
      deal_passed e = none_more _ _ before (found_fails _ _ r (deal_found_lem r f) e)

-- a square reaches as far as at most sixteen growers and pilots
pub all_within : {A : Type 0} (f : ℕ → ℕ → A) (n m : ℕ) → n ≤ 16 → m ≤ 16 → f (min 16 n) (min 16 m) ≡ f n m
all_within f n m hn hm =
    let rows : min 16 n ≡ n = omega arith in
    let columns : min 16 m ≡ m = omega arith in
    rw (rows, columns)
