-- The start satisfies the invariant, and each step keeps it.
-- Assumes nothing.
use Prim.Native.Nat.{ℕ, ◌+◌, ◌*◌, ◌≤◌, ◌<◌}
use mathlib.Core.Path.{◌≡◌, refl, ap₂}
use mathlib.Core.Logic.{◌≢◌}
use native.Mathlib.Nat.{le_refl, le_trans}
use native.Mathlib.Decide.{dec_le, dec_lt, ℕ_discrete}
use native.Mathlib.Omega.{arith}
use Rattle.market.specs.declared.Deal.{Deal}
use Rattle.market.specs.declared.Deal.TheVariants.{Tariff, Free}
use Rattle.market.specs.Market.{Ticket, cap, sum_deals, used_by_grower, used_by_pilot}
use Rattle.market.specs.Method.{Held, Slot, by_tariff, old_free, new_free, hours_of, deal_of, offer, worth, Fair, filled, demand_above}
use Rattle.market.specs.Method.{PairLaw, GrowerLaw, PilotLaw, Core, Invariant}
use Rattle.market.specs.Steps.{SameExcept, SameBeside, here, same, Added, BestDeal, Raised, NoLateHour}
use Rattle.grid.proofs.Sums.{sum-zero, sum_same}
use Rattle.market.proofs.Deals.{sum_deals_le, offer_le, offer_le_worth, filled_above, filled-below, filled_le}
use Rattle.market.proofs.Adding.{elsewhere, never_less, hours_added, used_by_grower_more, used_by_pilot_more, used_by_pilot-same}

-- At the start no hour is held, and every price is the pilot's lowest.
pub start : {t : Ticket} {price : ℕ → ℕ} {held : Held} → ((j : ℕ) → j < t.pilots → price j ≡ 18 * t.pilot_standby j) →
    ((q : Slot) (i j : ℕ) → i < t.growers → j < t.pilots → held q i j ≡ 0) → Invariant t price held
start {t} {price} {held} lowest none = record {
  core = record {
    pair = λ i j hi hj. record {
      within_cap = λ d. omega (arith, no_hours_lem d i j hi hj);
      fair = λ q h. absurd (omega (arith, none q i j hi hj));
    };
    grower = λ i hi. record {
      within_hours = omega (arith, no_sum (λ d j. hours_of held d i j) t.pilots (λ d j hj. no_hours_lem d i j hi hj));
      better_first = λ q j hj h. absurd (omega (arith, none q i j hi hj));
    };
  };
  pilot = λ j hj. record {
    within_hours = omega (arith, no_sum (λ d i. hours_of held d i j) t.growers (λ d i hi. no_hours_lem d i j hi hj));
    floor = omega (arith, lowest j hj);
    full = λ h. absurd (omega (arith, lowest j hj));
  };
}
  where
    no_hours_lem : (d : Deal) (i j : ℕ) → i < t.growers → j < t.pilots → hours_of held d i j ≡ 0
    no_hours_lem Tariff i j hi hj = none by_tariff i j hi hj
    no_hours_lem Free i j hi hj = omega (arith, none old_free i j hi hj, none new_free i j hi hj)

    no_sum : (f : Deal → ℕ → ℕ) (k : ℕ) → ((d : Deal) (x : ℕ) → x < k → f d x ≡ 0) → sum_deals f k ≡ 0
    no_sum f k zero = omega (
      arith,
      sum-zero k,
      sum_same (λ x. f Tariff x + f Free x) (λ x. 0) k (λ x h. omega (arith, zero Tariff x h, zero Free x h)),
    )

-- The law of a grower passes to a state where he has fewer hours, and each hour that he holds is covered: to fill the deals
-- that offer more than it is worth, w, takes no more than it took, before, above some v for which he had the hours.
abbrev pub Covered : Ticket → (ℕ → ℕ) → (ℕ → ℕ) → Held → Held → ℕ → ℕ → Type 0
Covered t price price' held held' i w = (v : ℕ) × (demand_above t price held v i ≤ t.grower_hours i) ×
    ((d : Deal) (l : ℕ) → l < t.pilots → filled t price' held' w d i l ≤ filled t price held v d i l)

pub grower_keeps : {t : Ticket} {price : ℕ → ℕ} (price' : ℕ → ℕ) {held : Held} (held' : Held) {i : ℕ} → i < t.growers →
    Core t price held → ((d : Deal) (j : ℕ) → j < t.pilots → hours_of held' d i j ≤ hours_of held d i j) →
    ((q : Slot) (j : ℕ) → j < t.pilots → 0 < held' q i j → Covered t price price' held held' i (worth t price' q i j)) →
    GrowerLaw t price' held' i
grower_keeps {t} price' {held} held' {i} hi core fewer covered = record {
  within_hours = le_trans (sum_deals_le _ (λ d j. hours_of held d i j) t.pilots fewer) (core.grower i hi).within_hours;
  better_first = λ q j hj h. (let z = covered q j hj h in le_trans (sum_deals_le _ _ t.pilots z.2) z.1);
}

-- So where he has fewer hours, offers are no higher, and each hour is worth what it was.
keeps_worth : {t : Ticket} {price : ℕ → ℕ} (price' : ℕ → ℕ) {held : Held} (held' : Held) {i : ℕ} → i < t.growers →
    Core t price held → ((d : Deal) (j : ℕ) → j < t.pilots → hours_of held' d i j ≤ hours_of held d i j) →
    ((j : ℕ) → j < t.pilots → price j ≤ price' j) →
    ((q : Slot) (j : ℕ) → j < t.pilots → 0 < held' q i j → demand_above t price held (worth t price' q i j) i ≤ t.grower_hours i) →
    GrowerLaw t price' held' i
keeps_worth {t} {price} price' {held} held' {i} hi core fewer higher still = grower_keeps price' held' hi core fewer (λ q j hj h. (
  worth t price' q i j,
  still q j hj h,
  λ d l hl. filled_le t price price' held held' _ _ d i l ((core.pair i l hi hl).within_cap d) (fewer d l hl)
      (λ room above. omega (arith, offer_le t price price' d i l (higher l hl))),
))

-- Hours may be taken from anybody.
pub taken : {t : Ticket} {price : ℕ → ℕ} {held : Held} (held' : Held) → ((q : Slot) (i j : ℕ) → held' q i j ≤ held q i j) →
    Core t price held → Core t price held'
taken {t} {price} {held} held' le core = record {
  pair = λ i j hi hj. record {
    within_cap = λ d. omega (arith, fewer i j d, (core.pair i j hi hj).within_cap d);
    fair = λ q h. (core.pair i j hi hj).fair q (omega (arith, le q i j));
  };
  grower = λ i hi. keeps_worth price held' hi core (λ d j hj. fewer i j d) (λ j hj. le_refl _)
      (λ q j hj h. (core.grower i hi).better_first q j hj (omega (arith, le q i j)));
}
  where
    fewer : (i j : ℕ) (d : Deal) → hours_of held' d i j ≤ hours_of held d i j
    fewer i j Tariff = le by_tariff i j
    fewer i j Free = omega (arith, le old_free i j, le new_free i j)

-- Hours may be added to the best deal of a grower.
module _ {t : Ticket} {price : ℕ → ℕ} {held held' : Held} {q : Slot} {i j x : ℕ} (hi : i < t.growers) (core : Core t price held)
    (best : BestDeal t price held q i j x) (plus : Added held held' q i j x) where
  up : Added (hours_of held) (hours_of held') (deal_of q) i j x
  up = hours_added plus

  -- what the deal offers
  abbrev bid : ℕ
  bid = offer t price (deal_of q) i j

  added_cap : {d : Deal} {k l : ℕ} → SameExcept (hours_of held) (hours_of held') (deal_of q) i j d k l →
      hours_of held d k l ≤ cap t d k l → hours_of held' d k l ≤ cap t d k l
  added_cap here h = omega (arith, up.there, best.room)
  added_cap (same e) h = omega arith

  added_fair : {p : Slot} {k l : ℕ} → SameExcept held held' q i j p k l → (0 < held p k l → Fair t price p k l) →
      0 < held' p k l → Fair t price p k l
  added_fair here f h = best.fair
  added_fair (same e) f h = f (omega arith)

  -- an hour that is worth less than the deal is not one of those added, and the demand above it stays as it is
  added_held : {p : Slot} {k l : ℕ} → SameExcept held held' q i j p k l → worth t price p k l < bid → 0 < held' p k l → 0 < held p k l
  added_held here less h = absurd (omega (arith, offer_le_worth t price i j q))
  added_held (same e) less h = omega arith

  added_filled : (v : ℕ) {d : Deal} {k l : ℕ} → SameExcept (hours_of held) (hours_of held') (deal_of q) i j d k l → v < bid →
      hours_of held d k l ≤ cap t d k l → filled t price held' v d k l ≤ filled t price held v d k l
  added_filled v here less fits =
      omega (arith, filled_above t price held v (deal_of q) i j less, filled_above t price held' v (deal_of q) i j less)
  added_filled v {d} {k} {l} (same e) less fits = filled_le t price price held held' v v d k l fits (omega arith) (λ room above. above)

  demand_below : (v : ℕ) → v < bid → demand_above t price held' v i ≤ demand_above t price held v i
  demand_below v less =
      sum_deals_le _ _ t.pilots (λ d l hl. added_filled v (up.rest d i l) less ((core.pair i l hi hl).within_cap d))

  -- above an hour that is worth as much as the deal, every deal is full
  added_full : (v : ℕ) (d : Deal) (l : ℕ) → l < t.pilots → bid ≤ v → filled t price held' v d i l ≤ hours_of held' d i l
  added_full v d l hl most =
      let full : v < offer t price d i l → cap t d i l ≤ hours_of held d i l = λ p. elim (dec_lt (hours_of held d i l) (cap t d i l))
      [ yes r ↦ absurd (omega (arith, best.best d l hl r)) | no r ↦ omega arith ] in
      elim (dec_lt v (offer t price d i l)) [
        | yes p ↦ omega (arith, full p, filled_above t price held' v d i l p, never_less up d i l)
        | no p ↦ omega (arith, filled-below t price held' v d i l (omega arith))
      ]

  demand_above_lem : (v : ℕ) → bid ≤ v → demand_above t price held' v i ≤ used_by_grower t (hours_of held') i
  demand_above_lem v most = sum_deals_le _ _ t.pilots (λ d l hl. added_full v d l hl most)

  added_grower : j < t.pilots → GrowerLaw t price held' i
  added_grower hj =
      let within : used_by_grower t (hours_of held') i ≤ t.grower_hours i = omega (arith, used_by_grower_more t plus hj, best.free) in
      record {
        within_hours = within;
        better_first = λ p l hl h. elim (dec_lt (worth t price p i l) bid) [
          | yes less ↦ le_trans (demand_below _ less) ((core.grower i hi).better_first p l hl (added_held (plus.rest p i l) less h))
          | no most ↦ le_trans (demand_above_lem (worth t price p i l) (omega arith)) within
        ];
      }

  other_grower : (k : ℕ) → k < t.growers → k ≢ i → GrowerLaw t price held' k
  other_grower k hk ne = keeps_worth price held' hk core
      (λ d l hl. omega (arith, elsewhere (up.rest d k l) (λ _ p _. ne p)))
      (λ l hl. le_refl _)
      (λ p l hl h. (core.grower k hk).better_first p l hl (omega (arith, elsewhere (plus.rest p k l) (λ _ e _. ne e))))

  pub added : j < t.pilots → Core t price held'
  added hj = record {
    pair = λ k l hk hl. record {
      within_cap = λ d. added_cap (up.rest d k l) ((core.pair k l hk hl).within_cap d);
      fair = λ p. added_fair (plus.rest p k l) ((core.pair k l hk hl).fair p);
    };
    grower = λ k hk. elim (ℕ_discrete k i) [ yes p ↦ rw p (added_grower hj) | no ne ↦ other_grower k hk ne ];
  }

-- Prices are looked at one by one.
pub fair_at : (t : Ticket) (price price' : ℕ → ℕ) (q : Slot) (i j : ℕ) → price' j ≡ price j → Fair t price q i j → Fair t price' q i j
fair_at t price price' by_tariff i j e f = omega arith
fair_at t price price' old_free i j e f = omega arith
fair_at t price price' new_free i j e f = omega arith

pub worth-at : (t : Ticket) (price price' : ℕ → ℕ) (q : Slot) (i j : ℕ) → price' j ≡ price j → worth t price' q i j ≡ worth t price q i j
worth-at t price price' by_tariff i j e = refl
worth-at t price price' old_free i j e = rw e
worth-at t price price' new_free i j e = rw e

module _ {t : Ticket} {price price' : ℕ → ℕ} {held held' : Held} {j : ℕ} (up : Raised t price price' held held' j) where
  raised_price : {l : ℕ} → SameBeside t price price' held held' j l → price l ≤ price' l
  raised_price here = omega (arith, up.there.risen)
  raised_price (same e f) = omega arith

  raised_hours : (d : Deal) {l : ℕ} → SameBeside t price price' held held' j l → (i : ℕ) → i < t.growers →
      hours_of held' d i l ≡ hours_of held d i l
  raised_hours Tariff here i hi = up.there.kept i hi
  raised_hours Free here i hi = omega (arith, up.there.aged i hi, up.there.none i hi)
  raised_hours Tariff (same e f) i hi = f by_tariff i hi
  raised_hours Free (same e f) i hi = ap₂ ◌+◌ (f old_free i hi) (f new_free i hi)

  pub raised_used : (l : ℕ) → l < t.pilots → used_by_pilot t (hours_of held') l ≡ used_by_pilot t (hours_of held) l
  raised_used l hl = sum_same _ _ t.growers
      (λ i hi. ap₂ ◌+◌ (raised_hours Tariff (up.rest l hl) i hi) (raised_hours Free (up.rest l hl) i hi))

  -- The price of a pilot may rise by one, when none of the pilot's hours is late.
  module _ (fresh : NoLateHour t price held j) (core : Core t price held) where
    -- an old hour was new at the price before
    was_new : (i : ℕ) → i < t.growers → 0 < held' old_free i j → 0 < held new_free i j
    was_new i hi h = omega (arith, up.there.aged i hi, fresh old_free i hi tt)

    on_time : (i : ℕ) → i < t.growers → 0 < held by_tariff i j → price j ≤ 18 * t.tariff_pay i j
    on_time i hi h = elim (dec_le (price j) (18 * t.tariff_pay i j)) [
      | yes p ↦ p
      | no p ↦ absurd (omega (arith, fresh by_tariff i hi (omega arith)))
    ]

    raised_fair : (q : Slot) {i l : ℕ} → SameBeside t price price' held held' j l → i < t.growers → PairLaw t price held i l →
        0 < held' q i l → Fair t price' q i l
    raised_fair by_tariff {i} here hi pair h =
        let was : 0 < held by_tariff i j = omega (arith, up.there.kept i hi) in
        omega (arith, up.there.risen, on_time i hi was, pair.fair by_tariff was)
    raised_fair old_free {i} here hi pair h = omega (arith, up.there.risen, pair.fair new_free (was_new i hi h))
    raised_fair new_free {i} here hi pair h = absurd (omega (arith, up.there.none i hi))
    raised_fair q {i} {l} (same e f) hi pair h = fair_at t price price' q i l e (pair.fair q (omega (arith, f q i hi)))

    -- and is worth as much as then
    worth_aged : (i : ℕ) → worth t price' old_free i j ≡ worth t price new_free i j
    worth_aged i = omega (arith, up.there.risen)

    raised_held : (q : Slot) {i l : ℕ} → SameBeside t price price' held held' j l → i < t.growers → l < t.pilots → 0 < held' q i l →
        demand_above t price held (worth t price' q i l) i ≤ t.grower_hours i
    raised_held by_tariff {i} here hi hl h = (core.grower i hi).better_first by_tariff j hl (omega (arith, up.there.kept i hi))
    raised_held old_free {i} here hi hl h = rw (worth_aged i) ((core.grower i hi).better_first new_free j hl (was_new i hi h))
    raised_held new_free {i} here hi hl h = absurd (omega (arith, up.there.none i hi))
    raised_held q {i} {l} (same e f) hi hl h =
        rw (worth-at t price price' q i l e) ((core.grower i hi).better_first q l hl (omega (arith, f q i hi)))

    pub raised : Core t price' held'
    raised = record {
      pair = λ i l hi hl. record {
        within_cap = λ d. omega (arith, raised_hours d (up.rest l hl) i hi, (core.pair i l hi hl).within_cap d);
        fair = λ q. raised_fair q (up.rest l hl) hi (core.pair i l hi hl);
      };
      grower = λ i hi. keeps_worth price' held' hi core
          (λ d l hl. omega (arith, raised_hours d (up.rest l hl) i hi))
          (λ l hl. raised_price (up.rest l hl))
          (λ q l hl. raised_held q (up.rest l hl) hi hl);
    }

-- The three steps, and the whole invariant. A pilot with as many hours at the same price is as before.
pub pilot-same : {t : Ticket} {price price' : ℕ → ℕ} {held held' : Held} {j : ℕ} → price' j ≡ price j →
    used_by_pilot t (hours_of held') j ≡ used_by_pilot t (hours_of held) j → PilotLaw t price held j → PilotLaw t price' held' j
pilot-same at used p = record {
  floor = omega (arith, p.floor);
  within_hours = omega (arith, p.within_hours);
  full = λ h. omega (arith, p.full (omega arith));
}

-- A pilot with free hours takes some more.
pub step_add : {t : Ticket} {price : ℕ → ℕ} {held held' : Held} {q : Slot} {i j x : ℕ} → i < t.growers → j < t.pilots →
    used_by_pilot t (hours_of held) j + x ≤ t.pilot_hours j → BestDeal t price held q i j x → Added held held' q i j x →
    Invariant t price held → Invariant t price held'
step_add {t} {j} hi hj fits best plus inv =
    let used = used_by_pilot_more t plus hi in
    let p = inv.pilot j hj in
    record {
      core = added hi inv.core best plus hj;
      pilot = λ l hl. elim (ℕ_discrete l j) [
        | yes e ↦ rw e (record { floor = p.floor; within_hours = omega arith; full = λ h. omega (arith, p.full h) })
        | no ne ↦ pilot-same refl (used_by_pilot-same t plus l ne) (inv.pilot l hl)
      ];
    }

-- A pilot takes some more hours, and gives up as many of grower k: held'' is held' without those.
pub step_move : {t : Ticket} {price : ℕ → ℕ} {held held' held'' : Held} {q p : Slot} {i k j x : ℕ} →
    i < t.growers → k < t.growers → j < t.pilots → BestDeal t price held q i j x → Added held held' q i j x →
    Added held'' held' p k j x → Invariant t price held → Invariant t price held''
step_move {t} {held''} {j} hi hk hj best plus minus inv = record {
  core = taken held'' (never_less minus) (added hi inv.core best plus hj);
  pilot = λ l hl. pilot-same refl
      (elim (ℕ_discrete l j) [
        | yes e ↦ rw e (omega (arith, used_by_pilot_more t plus hi, used_by_pilot_more t minus hk))
        | no ne ↦ omega (arith, used_by_pilot-same t plus l ne, used_by_pilot-same t minus l ne)
      ])
      (inv.pilot l hl);
}

-- A pilot with no free hour and no late hour asks for more.
pub step_raise : {t : Ticket} {price price' : ℕ → ℕ} {held held' : Held} {j : ℕ} → used_by_pilot t (hours_of held) j ≡ t.pilot_hours j →
    NoLateHour t price held j → Raised t price price' held held' j → Invariant t price held → Invariant t price' held'
step_raise {t} {price} {price'} {held} {held'} {j} full fresh up inv = record {
  core = raised up fresh inv.core;
  pilot = λ l hl. pilot (up.rest l hl) (raised_used up l hl) (inv.pilot l hl);
}
  where
    pilot : {l : ℕ} → SameBeside t price price' held held' j l →
        used_by_pilot t (hours_of held') l ≡ used_by_pilot t (hours_of held) l → PilotLaw t price held l → PilotLaw t price' held' l
    pilot here e p = record { floor = omega (arith, p.floor, up.there.risen); within_hours = omega arith; full = λ h. omega arith }
    pilot (same at f) e p = pilot-same at e p
