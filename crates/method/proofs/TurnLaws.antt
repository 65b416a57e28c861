-- A turn keeps what holds, and leaves less to do.
-- Assumes nothing.
use Prim.Native.Nat.{ℕ, ◌+◌, ◌≤◌, ◌<◌}
use mathlib.Core.Path.{◌≡◌, ◌∙◌, ap}
use mathlib.Core.List.{List}
use native.Mathlib.Omega.{arith}
use lib.ListN.{get_or, set, length, length-set}
use lib.Seq.{get_or-set_same, get_or-set_other}
use Rattle.grid.proofs.Cases.{by_index}
use Rattle.market.specs.declared.Deal.{Deal}
use Rattle.market.specs.declared.Deal.TheVariants.{Tariff, Free}
use Rattle.market.specs.Market.{Ticket, cap, used_by_grower, used_by_pilot}
use Rattle.market.specs.Method.{by_tariff, old_free, new_free, hours_of, slot_for, Invariant}
use Rattle.market.specs.Steps.{BestDeal, Late, NoLateHour, Raised, Added}
use Rattle.market.proofs.Deals.{best_deal, not_late, below_top}
use Rattle.market.proofs.Squares.{raised_of}
use Rattle.market.proofs.Steps.{start, step_add, step_move, step_raise}
use Rattle.market.proofs.Measure.{add_falls, move_falls, raise_falls}
use Rattle.offers.specs.declared.Agreed.{Agreed}
use Rattle.offers.specs.Limits.{top_price}
use Rattle.method.specs.View.{line, held_in, hours_held, agreed_at, no_hours}
use Rattle.method.specs.State.{Fit, Live, Turned}
use Rattle.method.specs.Choice.{Wanted}
use Rattle.method.specs.LateHours.{late_slot, HasLate}
use Rattle.method.specs.Changes.{Full, Aged}
use Rattle.method.proofs.HourChanges.{nothing_held}

-- the hours of a deal fit a cell
pub hours_fit : (t : Ticket) (prices : List ℕ) (held : List (List Agreed)) → Fit t → Live t prices held → (d : Deal) (i j : ℕ) →
    i < t.growers → j < t.pilots → hours_of (held_in held) d i j < 65536
hours_fit t prices held fit live Tariff i j hi hj =
    omega (arith, (live.inv.core.pair i j hi hj).within_cap Tariff, fit.tariff_cap i j)
hours_fit t prices held fit live Free i j hi hj =
    omega (arith, (live.inv.core.pair i j hi hj).within_cap Free, fit.free_cap i j)

-- and so do hours that the deal has room for
pub room_fits : (t : Ticket) (held : List (List Agreed)) (d : Deal) (i j x : ℕ) → Fit t → hours_of (held_in held) d i j + x ≤ cap t d i j →
    held_in held (slot_for d) i j + x < 65536
room_fits t held Tariff i j x fit h = omega (arith, fit.tariff_cap i j)
room_fits t held Free i j x fit h = omega (arith, fit.free_cap i j)

module _ (t : Ticket) (prices : List ℕ) (held : List (List Agreed)) (fit : Fit t) (live : Live t prices held) (d : Deal) (i j : ℕ)
    (want : Wanted t (line prices) (held_in held) d i j) where
  hi : i < t.growers
  hi = want.grower

  hj : j < t.pilots
  hj = want.pilot

  best : (x : ℕ) → hours_of (held_in held) d i j + x ≤ cap t d i j →
      used_by_grower t (hours_of (held_in held)) i + x ≤ t.grower_hours i →
      BestDeal t (line prices) (held_in held) (slot_for d) i j x
  best x room free =
      best_deal t (line prices) (held_in held) d i j x
      (omega (arith, want.taken, fit.grower_standby i)) room free (λ e l hl r _. want.most e l hl r)

  fresh : ¬ Late t (line prices) (slot_for d) i j
  fresh = not_late t (line prices) i j d want.taken

  -- the pilot has free hours
  pub turn_add : (held' : List (List Agreed)) (x : ℕ) → 0 < x → hours_of (held_in held) d i j + x ≤ cap t d i j →
      used_by_grower t (hours_of (held_in held)) i + x ≤ t.grower_hours i →
      used_by_pilot t (hours_of (held_in held)) j + x ≤ t.pilot_hours j → Full held' × Added (held_in held) (held_in held') (slot_for d) i j x →
      Turned t prices held prices held'
  turn_add held' x some room free fits p = record {
    live = record {
      full = p.0;
      sixteen = live.sixteen;
      low = live.low;
      inv = step_add hi hj fits (best x room free) p.1 live.inv;
    };
    less = add_falls t (line prices) top_price hi hj some fresh fits p.1;
  }

  -- the pilot has late hours
  pub turn_move : (between held' : List (List Agreed)) (e : Deal) (k x y : ℕ) → 0 < x → hours_of (held_in held) d i j + x ≤ cap t d i j →
      used_by_grower t (hours_of (held_in held)) i + x ≤ t.grower_hours i → HasLate t (line prices) (held_in held) e k j y →
      Added (held_in held) (held_in between) (slot_for d) i j x → Full held' × Added (held_in held') (held_in between) (late_slot e) k j x →
      Turned t prices held prices held'
  turn_move between held' e k x y some room free v put taken = record {
    live = record {
      full = taken.0;
      sixteen = live.sixteen;
      low = live.low;
      inv = step_move hi v.grower hj (best x room free) put taken.1 live.inv;
    };
    less = move_falls t (line prices) top_price hi v.grower hj some fresh v.late put taken.1;
  }

  below : line prices j < top_price
  below = below_top t (line prices) i j top_price d
      (omega (arith, fit.tariff_pay i j)) (omega (arith, fit.joint_gain i j)) want.taken

  pub raised : (prices' : List ℕ) (held' : List (List Agreed)) → prices' ≡ set prices j (get_or prices j 0 + 1) →
      Aged held held' j t.growers →
      Raised t (line prices) (line prices') (held_in held) (held_in held') j
  raised prices' held' e ag = raised_of
      (record {
        risen = rw e (omega (arith, get_or-set_same prices j (get_or prices j 0 + 1) 0 (omega (arith, live.sixteen, fit.pilots, hj))));
        kept = λ k hk. ap (λ (p : Agreed). hours_held p by_tariff) (ag.past k hk);
        aged = λ k hk. ap (λ (p : Agreed). hours_held p old_free) (ag.past k hk);
        none = λ k hk. ap (λ (p : Agreed). hours_held p new_free) (ag.past k hk);
      })
      (λ l hl ne. rw e (get_or-set_other prices j l (get_or prices j 0 + 1) 0 ne))
      (λ q k l hk hl ne. ap (λ (p : Agreed). hours_held p q) (ag.beside k l ne))

  -- the pilot has neither
  pub turn_raise : (prices' : List ℕ) (held' : List (List Agreed)) → t.pilot_hours j ≤ used_by_pilot t (hours_of (held_in held)) j →
      NoLateHour t (line prices) (held_in held) j → prices' ≡ set prices j (get_or prices j 0 + 1) → Aged held held' j t.growers →
      Full held' → Turned t prices held prices' held'
  turn_raise prices' held' busy none e ag fl =
      let full : used_by_pilot t (hours_of (held_in held)) j ≡ t.pilot_hours j = omega (arith, (live.inv.pilot j hj).within_hours) in
      let up = raised prices' held' e ag in
      record {
        live = record {
          full = fl;
          sixteen = rw e (length-set prices j (get_or prices j 0 + 1) ∙ live.sixteen);
          low = by_index (λ l. l < t.pilots → line prices' l ≤ top_price) j (λ _. omega (arith, up.there.risen, below))
              (λ l ne hl. rw e (omega (arith, get_or-set_other prices j l (get_or prices j 0 + 1) 0 ne, live.low l hl)));
          inv = step_raise full none up live.inv;
        };
        less = raise_falls top_price hj below full up;
      }

-- At the start all is 0.
module _ (t : Ticket) (prices : List ℕ) (held : List (List Agreed)) (fit : Fit t) (zp : (j : ℕ) → line prices j ≡ 0)
    (zh : (i j : ℕ) → agreed_at held i j ≡ no_hours) where
  at-start : Invariant t (line prices) (held_in held)
  at-start = start (λ j hj. omega (arith, zp j, fit.pilot_standby j)) (λ q i j hi hj. nothing_held held zh q i j)

  pub live_start : length prices ≡ 16 → Full held → Live t prices held
  live_start l full = record { full = full; sixteen = l; low = λ j hj. omega (arith, zp j); inv = at-start }
