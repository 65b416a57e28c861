-- A jump keeps what holds, and leaves less to do.
-- Assumes nothing.
use Prim.Native.Nat.{ℕ, ◌≤◌, ◌<◌}
use mathlib.Core.Bool.{Bool, true, false}
use mathlib.Core.Path.{◌≡◌, refl}
use mathlib.Core.List.{List, []}
use native.Mathlib.Nat.{le_refl}
use native.Mathlib.Decide.{dec_lt}
use native.Mathlib.Omega.{arith}
use Rattle.market.specs.Market.{Ticket}
use Rattle.market.specs.Method.{Held}
use Rattle.market.specs.Steps as steps
use Rattle.market.proofs.Jump.{step_jump, jump_falls}
use Rattle.offers.specs.declared.Terms.{Terms}
use Rattle.offers.specs.declared.Agreed.{Agreed}
use Rattle.offers.specs.Limits.{top_price}
use Rattle.method.specs.View.{line, ticket, held_in}
use Rattle.method.specs.State.{Live, FreeHours, Turned}
use Rattle.method.specs.Jumps.{among, GrowersBear, PilotsBear, RaisedMarked}
use Rattle.method.specs.Rises.{Jumps}
use Rattle.method.proofs.JumpLaws.{growers_any}

-- For each grower a bound of what the hours are worth.
module _ (t : Ticket) (chosen : ℕ → Bool) (price : ℕ → ℕ) (held : Held) (x : ℕ) (some : 0 < x)
    (growers : GrowersBear t chosen price held t.growers x) where
  abbrev low_if : (i : ℕ) → Dec (i < t.growers) → ℕ
  low_if i (yes p) = (growers.grower i p x some (le_refl x)).0
  low_if i (no p) = 0

  borne_if : (i : ℕ) → i < t.growers → (d : Dec (i < t.growers)) → steps.JumpGrower t chosen x price held i (low_if i d)
  borne_if i hi (yes p) = (growers.grower i p x some (le_refl x)).1
  borne_if i hi (no p) = absurd (p hi)

  abbrev low : ℕ → ℕ
  low i = low_if i (dec_lt i t.growers)

  borne : (i : ℕ) → i < t.growers → steps.JumpGrower t chosen x price held i (low i)
  borne i hi = borne_if i hi (dec_lt i t.growers)

module _ (t : Ticket) (prices prices' : List ℕ) (held : List (List Agreed)) (live : Live t prices held) (j : ℕ) (hj : j < t.pilots)
    (marks : List Bool) (x : ℕ) (some : 0 < x) (here : among marks j ≡ true)
    (growers : GrowersBear t (among marks) (line prices) (held_in held) t.growers x) (free : List ℕ) (hours : FreeHours t held free)
    (pilots : PilotsBear (among marks) (line free) (line prices) t.pilots x)
    (up : RaisedMarked prices prices' marks t.pilots x) where
  jump : steps.Jump t (among marks) x (line prices) (line prices') (held_in held)
      (low t (among marks) (line prices) (held_in held) x some growers) top_price
  jump = record {
    prices = record {
      risen = λ l hl e. rw e at (up.price l hl);
      kept = λ l hl e. omega (arith, rw e at (up.price l hl));
    };
    pilot = λ l hl e. record {
      full = omega (arith, hours.each l hl, pilots.full some l hl e);
      below = pilots.below x some (le_refl x) l hl e;
      tariff = λ i hi h. (growers.tariffs i hi).each x some (le_refl x) l hl e h;
    };
    grower = borne t (among marks) (line prices) (held_in held) x some growers;
  }

  below_top : (l : ℕ) → l < t.pilots → (b : Bool) → among marks l ≡ b → line prices' l ≤ top_price
  below_top l hl true e = omega (arith, jump.prices.risen l hl e, (jump.pilot l hl e).below)
  below_top l hl false e = omega (arith, jump.prices.kept l hl e, live.low l hl)

  jumped : Turned t prices held prices' held
  jumped = record {
    live = record {
      full = live.full;
      sixteen = up.sixteen;
      low = λ l hl. below_top l hl (among marks l) refl;
      inv = step_jump jump live.inv;
    };
    less = jump_falls jump some j hj here;
  }

-- the pilot's price jumps
module _ (n m : ℕ) (grower_hours pilot_hours : List ℕ) (terms : List (List Terms)) (prices prices' : List ℕ) (held held' : List (List Agreed))
    (free : List ℕ) (j : ℕ) (hj : j < m) where
  pub turn_jump : Live (ticket n m grower_hours pilot_hours terms) prices held →
      FreeHours (ticket n m grower_hours pilot_hours terms) held free →
      Jumps (ticket n m [] [] terms) (line free) prices held prices' held' j →
      Turned (ticket n m grower_hours pilot_hours terms) prices held prices' held'
  turn_jump live hours js =
      rw js.same
      (jumped (ticket n m grower_hours pilot_hours terms) prices prices' held live j hj
      js.marks js.by js.some js.here
      (growers_any n m terms held (among js.marks) (line prices) grower_hours pilot_hours js.by js.growers)
      free hours js.pilots js.raised)
