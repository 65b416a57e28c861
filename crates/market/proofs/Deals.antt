-- Sums over deals; what a deal offers and comes to when filled; and which deal is a grower's best.
-- Assumes nothing.
use Prim.Native.Nat.{ℕ, suc, ◌+◌, ◌*◌, ◌≤◌, ◌<◌}
use mathlib.Core.Path.{◌≡◌}
use native.Mathlib.Decide.{dec_le, dec_lt}
use native.Mathlib.Omega.{arith}
use borrow.Author.Tests.{le-leb, lt-leb, lt-ltb, le-ltb}
use Rattle.market.specs.declared.Deal.{Deal}
use Rattle.market.specs.declared.Deal.TheVariants.{Tariff, Free}
use Rattle.market.specs.Market.{Ticket, cap, sum_deals, used_by_grower}
use Rattle.market.specs.Method.{Held, Slot, by_tariff, old_free, new_free, hours_of, deal_of, slot_for, offer, worth, filled}
use Rattle.market.specs.Steps.{BestDeal, Late}
use Rattle.grid.proofs.Sums.{sum_le, sum_tight}

pub sum_deals_le : (f g : Deal → ℕ → ℕ) (k : ℕ) → ((d : Deal) (x : ℕ) → x < k → f d x ≤ g d x) → sum_deals f k ≤ sum_deals g k
sum_deals_le f g k le = sum_le _ _ k (λ x h. omega (arith, le Tariff x h, le Free x h))

pub sum_deals_tight : (f g : Deal → ℕ → ℕ) (k : ℕ) → ((d : Deal) (x : ℕ) → x < k → f d x ≤ g d x) → sum_deals g k ≤ sum_deals f k →
    (d : Deal) (x : ℕ) → x < k → g d x ≤ f d x
sum_deals_tight f g k le h d x hx = go d
  where
    both : g Tariff x + g Free x ≤ f Tariff x + f Free x
    both = sum_tight (λ y. f Tariff y + f Free y) (λ y. g Tariff y + g Free y) k
        (λ y hy. omega (arith, le Tariff y hy, le Free y hy)) h x hx

    go : (d : Deal) → g d x ≤ f d x
    go Tariff = omega (arith, both, le Free x hx)
    go Free = omega (arith, both, le Tariff x hx)

module _ (t : Ticket) (price : ℕ → ℕ) (i j : ℕ) where
  -- the pilot takes a tariff hour up to what it pays
  pub on_offer : price j ≤ 18 * t.tariff_pay i j → offer t price Tariff i j ≡ suc (18 * t.tariff_gain i j)
  on_offer h = rw (le-leb (price j) (18 * t.tariff_pay i j) h)

  pub off_offer : 18 * t.tariff_pay i j < price j → offer t price Tariff i j ≡ 0
  off_offer h = rw (lt-leb (price j) (18 * t.tariff_pay i j) h)

  taken_at : 0 < offer t price Tariff i j → price j ≤ 18 * t.tariff_pay i j
  taken_at h = elim (dec_le (price j) (18 * t.tariff_pay i j)) [ yes p ↦ p | no p ↦ absurd (omega (arith, off_offer (omega arith))) ]

  -- a held hour is worth at least what its deal offers
  pub offer_le_worth : (q : Slot) → offer t price (deal_of q) i j ≤ worth t price q i j
  offer_le_worth by_tariff = elim (dec_le (price j) (18 * t.tariff_pay i j)) [
    | yes p ↦ omega (arith, on_offer p)
    | no p ↦ omega (arith, off_offer (omega arith))
  ]
  offer_le_worth old_free = omega arith
  offer_le_worth new_free = omega arith

  -- hours that a deal gets more are not late
  pub not_late : (d : Deal) → 0 < offer t price d i j → ¬ Late t price (slot_for d) i j
  not_late Tariff h is = omega (arith, taken_at h)
  not_late Free h is = is

  -- a price has an end
  pub below_top : (top : ℕ) (d : Deal) → 18 * t.tariff_pay i j < top → 18 * t.joint_gain i j < top → 0 < offer t price d i j → price j < top
  below_top top Tariff hb hc h = omega (arith, taken_at h)
  below_top top Free hb hc h = omega arith

-- a higher price offers less
pub offer_le : (t : Ticket) (price price' : ℕ → ℕ) (d : Deal) (i j : ℕ) → price j ≤ price' j → offer t price' d i j ≤ offer t price d i j
offer_le t price price' Tariff i j h = elim (dec_le (price' j) (18 * t.tariff_pay i j)) [
  | yes p ↦ omega (arith, on_offer t price' i j p, on_offer t price i j (omega arith))
  | no p ↦ omega (arith, off_offer t price' i j (omega arith))
]
offer_le t price price' Free i j h = omega arith

module _ (t : Ticket) (price : ℕ → ℕ) (held : Held) (v : ℕ) (d : Deal) (i j : ℕ) where
  pub filled_above : v < offer t price d i j → filled t price held v d i j ≡ cap t d i j
  filled_above h = rw (lt-ltb v (offer t price d i j) h)

  pub filled-below : offer t price d i j ≤ v → filled t price held v d i j ≡ hours_of held d i j
  filled-below h = rw (le-ltb v (offer t price d i j) h)

  pub hours_le_filled : hours_of held d i j ≤ cap t d i j → hours_of held d i j ≤ filled t price held v d i j
  hours_le_filled h = elim (dec_lt v (offer t price d i j)) [
    | yes p ↦ omega (arith, filled_above p)
    | no p ↦ omega (arith, filled-below (omega arith))
  ]

-- A deal with fewer hours fills to no more, if it is to be filled now only where it was before, or had no room.
pub filled_le : (t : Ticket) (price price' : ℕ → ℕ) (held held' : Held) (v v' : ℕ) (d : Deal) (i j : ℕ) →
    hours_of held d i j ≤ cap t d i j → hours_of held' d i j ≤ hours_of held d i j →
    (hours_of held d i j < cap t d i j → v' < offer t price' d i j → v < offer t price d i j) →
    filled t price' held' v' d i j ≤ filled t price held v d i j
filled_le t price price' held held' v v' d i j fits fewer was = elim (dec_lt v' (offer t price' d i j)) [
  | yes p ↦ elim (dec_lt (hours_of held d i j) (cap t d i j)) [
    | yes room ↦ omega (arith, filled_above t price' held' v' d i j p, filled_above t price held v d i j (was room p))
    | no room ↦ omega (arith, filled_above t price' held' v' d i j p, hours_le_filled t price held v d i j fits)
  ]
  | no p ↦ omega (arith, filled-below t price' held' v' d i j (omega arith), hours_le_filled t price held v d i j fits)
]

-- An open deal has room, and brings the grower at least what a free hour is worth. The one that offers most is the best.
abbrev MostOpen : Ticket → (ℕ → ℕ) → Held → ℕ → ℕ → Type 0
MostOpen t price held i v = (e : Deal) (l : ℕ) → l < t.pilots → hours_of held e i l < cap t e i l →
    18 * t.grower_standby i < offer t price e i l → offer t price e i l ≤ v

most_of_all : (t : Ticket) (price : ℕ → ℕ) (held : Held) (i v : ℕ) → 18 * t.grower_standby i < v → MostOpen t price held i v →
    (e : Deal) (l : ℕ) → l < t.pilots → hours_of held e i l < cap t e i l → offer t price e i l ≤ v
most_of_all t price held i v wanted most e l hl room =
    elim (dec_lt (18 * t.grower_standby i) (offer t price e i l)) [ yes p ↦ most e l hl room p | no p ↦ omega arith ]

pub best_deal : (t : Ticket) (price : ℕ → ℕ) (held : Held) (d : Deal) (i j x : ℕ) → 18 * t.grower_standby i < offer t price d i j →
    hours_of held d i j + x ≤ cap t d i j → used_by_grower t (hours_of held) i + x ≤ t.grower_hours i →
    MostOpen t price held i (offer t price d i j) → BestDeal t price held (slot_for d) i j x
best_deal t price held Tariff i j x wanted room free most =
    let p = taken_at t price i j (omega arith) in
    record {
      fair = omega (arith, on_offer t price i j p);
      room = omega arith;
      free = omega arith;
      best = λ e l hl r. omega (arith, most_of_all t price held i _ wanted most e l hl r);
    }
best_deal t price held Free i j x wanted room free most =
    record {
      fair = omega arith;
      room = omega arith;
      free = omega arith;
      best = λ e l hl r. omega (arith, most_of_all t price held i _ wanted most e l hl r);
    }
