-- What holds before every turn of the method, and what is left to do then.
-- Assumes nothing.
use Prim.Native.Nat.{ℕ, ◌+◌, ◌*◌, ◌-◌, ◌≤◌, ◌<◌}
use mathlib.Core.Path.{◌≡◌}
use mathlib.Core.List.{List}
use native.Mathlib.Decide.{dec_lt}
use native.Mathlib.Omega.{arith}
use Rattle.market.specs.Market.{Ticket}
use Rattle.offers.specs.declared.Agreed.{Agreed}
use Rattle.method.specs.View.{line, held_in}
use Rattle.method.specs.State.{Live, FreeHours, Turned, Ended, left_to_do}
use Rattle.method.specs.Choice.{AsksNothing}
use Rattle.method.proofs.Asking.{NoneAsks, none_asks_start, none_asks_more, none_asks_round, done_if_none_asks}

-- grower i is asked next, and the k before him, and round from the last to the first, asked for nothing
pub record Working (t : Ticket) (prices : List ℕ) (held : List (List Agreed)) (free : List ℕ) (i k : ℕ) : Type 0 where
  pub live : Live t prices held
  pub hours : FreeHours t held free
  pub start : 0 < t.growers → i < t.growers
  pub most : k ≤ t.growers
  pub content : NoneAsks t (line prices) (held_in held) i k

-- A turn leaves less to do, whatever becomes of k; between two turns k grows.
abbrev pub left : Ticket → List ℕ → List (List Agreed) → ℕ → ℕ
left t prices held k = 17 * left_to_do t prices held + (t.growers - k)

pub left_less : (t : Ticket) (prices : List ℕ) (held : List (List Agreed)) (prices' : List ℕ) (held' : List (List Agreed)) (k : ℕ) →
    t.growers ≤ 16 → Turned t prices held prices' held' → left t prices' held' 0 < left t prices held k
left_less t prices held prices' held' k h turned = omega (arith, turned.less)

module _ (t : Ticket) (prices : List ℕ) (held : List (List Agreed)) (free : List ℕ) where
  pub work_starts : (i : ℕ) → (0 < t.growers → i < t.growers) → Live t prices held → FreeHours t held free →
      Working t prices held free i 0
  work_starts i start live hours =
      record { live = live; hours = hours; start = start; most = omega arith; content = none_asks_start t (line prices) (held_in held) i }

  module _ (i k : ℕ) (work : Working t prices held free i k) where
    pub next-grower : (l : ℕ) → k < t.growers → l < t.growers → (i + 1 < t.growers → l ≡ i + 1) → (t.growers ≤ i + 1 → l ≡ 0) →
        AsksNothing t (line prices) (held_in held) i → Working t prices held free l (k + 1)
    next-grower l hk hl near far none = record {
      live = work.live;
      hours = work.hours;
      start = λ _. hl;
      most = omega arith;
      content = elim (dec_lt (i + 1) t.growers) [
        | yes p ↦ rw (near p) (none_asks_more t (line prices) (held_in held) i k work.content none)
        | no p ↦ rw (far (omega arith))
            (none_asks_round t (line prices) (held_in held) i k work.content (omega (arith, work.start (omega arith))) none)
      ];
    }

    pub work_ends : t.growers ≤ k → Ended t prices held
    work_ends h = record { live = work.live; done = done_if_none_asks t (line prices) (held_in held) i k work.content h work.start }
