-- Every market of at most sixteen pilots has a sound settlement: as long as the method is not done, one of its steps can be
-- taken, an hour at a time, and leaves less to do.
-- Assumes nothing.
use Prim.Native.Nat.{ℕ, zero, suc, ◌+◌, ◌*◌, ◌-◌, ◌≤◌, ◌<◌}
use mathlib.Core.Bool.{true}
use mathlib.Core.Path.{◌≡◌, refl, sym}
use mathlib.Core.Logic.{◌⊎◌, inl, inr, ⊎_elim, ◌≢◌}
use native.Mathlib.Nat.{le_refl}
use native.Mathlib.Decide.{dec_lt}
use native.Mathlib.Omega.{arith}
use lib.Dec.{eqb, ltb}
use borrow.Author.Tests.{eq-eqb, ne_eqb, lt-ltb, le-ltb}
use Rattle.grid.specs.Pick.{pick}
use Rattle.grid.specs.Sum.{sum}
use Rattle.market.specs.declared.Deal.{Deal}
use Rattle.market.specs.Market.{Ticket, Settlement, cap, used_by_grower, used_by_pilot, Sound}
use Rattle.market.specs.Method.{Held, Slot, by_tariff, old_free, new_free, hours_of, slot_for, offer, Invariant, Done, settled}
use Rattle.market.specs.Steps.{SameExcept, here, same, Added, BestDeal, Raised, Late, NoLateHour, late_of_pair, late_of_pilot, measure}
use Rattle.market.specs.Squares.{in_squares, set_cell}
use Rattle.grid.proofs.Sums.{no_term, term_le_sum}
use Rattle.market.proofs.Finding.{upto, some_term, peak_of_deals}
use Rattle.market.proofs.Rounding.{good_shift}
use Rattle.market.proofs.Deals.{not_late, below_top, best_deal}
use Rattle.market.proofs.Adding.{never_less}
use Rattle.market.proofs.Squares.{same_elsewhere, set_cell_here, set_cell-rest, raised_of}
use Rattle.market.proofs.Steps.{start, step_add, step_move, step_raise}
use Rattle.market.proofs.Measure.{late_yes, late_not, add_falls, move_falls, raise_falls}
use Rattle.market.proofs.End.{sound}

-- The hours with v at one place.
abbrev put : Held → Slot → ℕ → ℕ → ℕ → Held
put held by_tariff i j v = in_squares (set_cell (held by_tariff) i j v) (held old_free) (held new_free)
put held old_free i j v = in_squares (held by_tariff) (set_cell (held old_free) i j v) (held new_free)
put held new_free i j v = in_squares (held by_tariff) (held old_free) (set_cell (held new_free) i j v)

put_here : (held : Held) (q : Slot) (i j v : ℕ) → put held q i j v q i j ≡ v
put_here held by_tariff i j v = set_cell_here (held by_tariff) i j v
put_here held old_free i j v = set_cell_here (held old_free) i j v
put_here held new_free i j v = set_cell_here (held new_free) i j v

put_rest : (held : Held) (q : Slot) (i j v : ℕ) (p : Slot) (k l : ℕ) → SameExcept held (put held q i j v) q i j p k l
put_rest held by_tariff i j v by_tariff k l =
    same_elsewhere held (put held by_tariff i j v) by_tariff (set_cell-rest (held by_tariff) i j v) k l
put_rest held by_tariff i j v old_free k l = same refl
put_rest held by_tariff i j v new_free k l = same refl
put_rest held old_free i j v by_tariff k l = same refl
put_rest held old_free i j v old_free k l =
    same_elsewhere held (put held old_free i j v) old_free (set_cell-rest (held old_free) i j v) k l
put_rest held old_free i j v new_free k l = same refl
put_rest held new_free i j v by_tariff k l = same refl
put_rest held new_free i j v old_free k l = same refl
put_rest held new_free i j v new_free k l =
    same_elsewhere held (put held new_free i j v) new_free (set_cell-rest (held new_free) i j v) k l

swap : {f g : Slot → ℕ → ℕ → ℕ} {q p : Slot} {i j k l : ℕ} → SameExcept f g q i j p k l → SameExcept g f q i j p k l
swap here = here
swap (same e) = same (sym e)

one_more : (held : Held) (q : Slot) (i j : ℕ) → Added held (put held q i j (held q i j + 1)) q i j 1
one_more held q i j = record { there = put_here held q i j _; rest = put_rest held q i j _ }

one_less : (held : Held) (q : Slot) (i j : ℕ) → 0 < held q i j → Added (put held q i j (held q i j - 1)) held q i j 1
one_less held q i j h = record {
  there = rw (put_here held q i j (held q i j - 1)) (omega arith);
  rest = λ p k l. swap (put_rest held q i j _ p k l);
}

-- The prices with one more at pilot j, and the hours with the new ones of pilot j made old.
abbrev raise : (ℕ → ℕ) → ℕ → ℕ → ℕ
raise price j l = pick (eqb l j) (suc (price j)) (price l)

abbrev age : Held → ℕ → Held
age held j by_tariff i l = held by_tariff i l
age held j old_free i l = pick (eqb l j) (held old_free i l + held new_free i l) (held old_free i l)
age held j new_free i l = pick (eqb l j) 0 (held new_free i l)

all_raised : (t : Ticket) (price : ℕ → ℕ) (held : Held) (j : ℕ) → Raised t price (raise price j) held (age held j) j
all_raised t price held j = raised_of
    (record { risen = rw at; kept = λ i hi. refl; aged = λ i hi. rw at; none = λ i hi. rw at })
    (λ l hl ne. rw (ne_eqb l j ne))
    beside
  where
    at : eqb j j ≡ true
    at = eq-eqb j j refl

    beside : (q : Slot) (i l : ℕ) → i < t.growers → l < t.pilots → l ≢ j → age held j q i l ≡ held q i l
    beside by_tariff i l hi hl ne = refl
    beside old_free i l hi hl ne = rw (ne_eqb l j ne)
    beside new_free i l hi hl ne = rw (ne_eqb l j ne)

-- top is above every price that a pilot can come to
abbrev High : Ticket → ℕ → Type 0
High t top = (i j : ℕ) → i < t.growers → j < t.pilots → (18 * t.tariff_pay i j < top) × (18 * t.joint_gain i j < top)

module _ (t : Ticket) (top : ℕ) (high : High t top) where
  -- a state with less to do
  abbrev Next : (ℕ → ℕ) → Held → Type 0
  Next price held = (price' : ℕ → ℕ) × (held' : Held) × Invariant t price' held' × (measure t price' held' top < measure t price held top)

  module _ {price : ℕ → ℕ} {held : Held} (inv : Invariant t price held) where
    -- what a deal offers, if it has room
    abbrev chance : ℕ → Deal → ℕ → ℕ
    chance i d j = pick (ltb (hours_of held d i j) (cap t d i j)) (offer t price d i j) 0

    chance_is : (i j : ℕ) (d : Deal) → hours_of held d i j < cap t d i j → chance i d j ≡ offer t price d i j
    chance_is i j d h = rw (lt-ltb (hours_of held d i j) (cap t d i j) h)

    chance-none : (i j : ℕ) (d : Deal) → cap t d i j ≤ hours_of held d i j → chance i d j ≡ 0
    chance-none i j d h = rw (le-ltb (hours_of held d i j) (cap t d i j) h)

    chance_room : (i j : ℕ) (d : Deal) → 0 < chance i d j → hours_of held d i j < cap t d i j
    chance_room i j d h = elim (dec_lt (hours_of held d i j) (cap t d i j)) [
      | yes p ↦ p
      | no p ↦ absurd (omega (arith, chance-none i j d (omega arith)))
    ]

    -- a late hour of pilot j, which grower k has
    record LateHour (j : ℕ) : Type 0 where
      q : Slot
      k : ℕ
      in_range : k < t.growers
      is_late : Late t price q k j
      some : 0 < held q k j

    late_hour_of : (k j : ℕ) → k < t.growers → 0 < late_of_pair t price held k j → LateHour j
    late_hour_of k j hk h = elim (dec_lt 0 (held old_free k j)) [
      | yes p ↦ record { q = old_free; k = k; in_range = hk; is_late = tt; some = p }
      | no p ↦ elim (dec_lt (18 * t.tariff_pay k j) (price j)) [
        | yes l ↦ record { q = by_tariff; k = k; in_range = hk; is_late = l; some = omega (arith, late_yes t price k j held l) }
        | no l ↦ absurd (omega (arith, late_not t price k j held (omega arith)))
      ]
    ]

    late_none : (j : ℕ) → late_of_pilot t price held j ≡ 0 → NoLateHour t price held j
    late_none j e by_tariff k hk is =
        omega (arith, no_term (λ i. late_of_pair t price held i j) t.growers k e hk, late_yes t price k j held is)
    late_none j e old_free k hk is = omega (arith, no_term (λ i. late_of_pair t price held i j) t.growers k e hk)
    late_none j e new_free k hk is = absurd is

    late_hour : (j : ℕ) → LateHour j ⊎ NoLateHour t price held j
    late_hour j = elim (dec_lt 0 (late_of_pilot t price held j)) [
      | yes p ↦ inl (let z = some_term (λ k. late_of_pair t price held k j) t.growers p in late_hour_of z.0 j z.1 z.2)
      | no p ↦ inr (late_none j (omega arith))
    ]

    -- One more hour of the deal d, which offers grower i most.
    module _ (d : Deal) (i j : ℕ) (hi : i < t.growers) (hj : j < t.pilots)
        (best : BestDeal t price held (slot_for d) i j 1) (taken : 0 < offer t price d i j) where
      abbrev held' : Held
      held' = put held (slot_for d) i j (held (slot_for d) i j + 1)

      plus : Added held held' (slot_for d) i j 1
      plus = one_more held (slot_for d) i j

      add : used_by_pilot t (hours_of held) j < t.pilot_hours j → Next price held
      add h = (
        price,
        held',
        step_add hi hj (omega arith) best plus inv,
        add_falls t price top hi hj (omega arith) (not_late t price i j d taken) (omega arith) plus,
      )

      move : LateHour j → Next price held
      move z =
          let minus = one_less held' z.q z.k j (omega (arith, z.some, never_less plus z.q z.k j)) in (
            price,
            put held' z.q z.k j (held' z.q z.k j - 1),
            step_move hi z.in_range hj best plus minus inv,
            move_falls t price top hi z.in_range hj (omega arith) (not_late t price i j d taken) z.is_late plus minus,
          )

      lift : used_by_pilot t (hours_of held) j ≡ t.pilot_hours j → NoLateHour t price held j → Next price held
      lift full fresh =
          let up = all_raised t price held j in
          let bounds = high i j hi hj in (
            raise price j,
            age held j,
            step_raise full fresh up inv,
            raise_falls top hj (below_top t price i j top d bounds.0 bounds.1 taken) full up,
          )

      any : Next price held
      any = elim (dec_lt (used_by_pilot t (hours_of held) j) (t.pilot_hours j)) [
        | yes p ↦ add p
        | no p ↦ ⊎_elim move (lift (omega (arith, (inv.pilot j hj).within_hours))) (late_hour j)
      ]

    -- A grower with a free hour and a deal worth it has a step.
    step : (d : Deal) (i j : ℕ) → i < t.growers → j < t.pilots → used_by_grower t (hours_of held) i < t.grower_hours i →
        18 * t.grower_standby i < chance i d j → ((e : Deal) (l : ℕ) → l < t.pilots → chance i e l ≤ chance i d j) → Next price held
    step d i j hi hj free wanted most =
        let room = chance_room i j d (omega arith) in
        let is = chance_is i j d room in
        let best = best_deal t price held d i j 1 (omega arith) (omega arith) (omega arith)
        (λ e l hl r _. omega (arith, most e l hl, chance_is i l e r)) in
        any d i j hi hj best (omega arith)

    abbrev GrowerDone : ℕ → Type 0
    GrowerDone i = (d : Deal) (j : ℕ) → j < t.pilots → used_by_grower t (hours_of held) i < t.grower_hours i →
        hours_of held d i j < cap t d i j → offer t price d i j ≤ 18 * t.grower_standby i

    grower_done : (i : ℕ) → i < t.growers → GrowerDone i ⊎ Next price held
    grower_done i hi = elim (dec_lt (used_by_grower t (hours_of held) i) (t.grower_hours i)) [
      | yes free ↦ ⊎_elim
          (λ low. inl (λ d j hj _ room. omega (arith, low d j hj, chance_is i j d room)))
          (λ z. inr (step z.0 i z.1 hi z.2 free z.3 z.4))
          (peak_of_deals (chance i) (18 * t.grower_standby i) t.pilots)
      | no none ↦ inl (λ d j hj free. absurd (omega arith))
    ]

    growers_done : (k : ℕ) → k ≤ t.growers → ((i : ℕ) → i < k → GrowerDone i) ⊎ Next price held
    growers_done zero hk = inl (λ i hi. absurd (omega arith))
    growers_done (suc k) hk = ⊎_elim
        (λ before. ⊎_elim (λ last. inl (upto GrowerDone k before last)) inr (grower_done k hk))
        inr
        (growers_done k (omega arith))

  -- So the method ends.
  ends : (b : ℕ) (price : ℕ → ℕ) (held : Held) → Invariant t price held → measure t price held top < b →
      (price' : ℕ → ℕ) × (held' : Held) × Invariant t price' held' × Done t price' held'
  ends zero price held inv h = absurd (omega arith)
  ends (suc b) price held inv h = ⊎_elim
      (λ done. (price, held, inv, λ d i j hi. done i hi d j))
      (λ z. ends b z.0 z.1 z.2 (omega (arith, z.3)))
      (growers_done inv t.growers (le_refl _))

high_enough : (t : Ticket) → (top : ℕ) × High t top
high_enough t =
    let f : ℕ → ℕ → ℕ = λ i j. 18 * t.tariff_pay i j + 18 * t.joint_gain i j in (
      suc (sum (λ i. sum (f i) t.pilots) t.growers),
      λ i j hi hj. omega (arith, term_le_sum (f i) t.pilots j hj, term_le_sum (λ k. sum (f k) t.pilots) t.growers i hi),
    )

pub settlement_exists : (t : Ticket) → t.pilots ≤ 16 → (x : Settlement) × Sound t x
settlement_exists t few =
    let (top, high) = high_enough t in
    let (price, held, inv, done) = ends t top high _ (λ j. 18 * t.pilot_standby j) (λ q i j. 0)
    (start (λ j hj. refl) (λ q i j hi hj. refl)) (le_refl _) in
    let (r, good) = good_shift t price few in
    (settled t price held r, sound inv good done)
