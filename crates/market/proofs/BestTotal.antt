-- Where there are no tariff deals, a sound settlement has the greatest worth of all that fit the ticket.
-- Assumes nothing.
use Prim.Native.Nat.{ℕ, ◌+◌, ◌*◌, ◌-◌, ◌≤◌, ◌<◌}
use mathlib.Core.Path.{◌≡◌, refl, ap}
use mathlib.Core.Logic.{◌≢◌, ⊎_elim}
use native.Mathlib.Nat.{mul-le-mul_left, mul-le-mul_right}
use native.Mathlib.Decide.{dec_lt}
use native.Mathlib.Omega.{arith}
use Rattle.grid.specs.Sum.{sum, sum_square}
use Rattle.market.specs.declared.Deal.TheVariants.{Tariff, Free}
use Rattle.market.specs.Market.{Ticket, Settlement, DealHours, used_by_grower, used_by_pilot, Fits, Sound}
use Rattle.market.specs.Market.{earned_by_grower, SpareOfGrower, SpareOfPilot, free_hour, other_deal}
use Rattle.market.specs.Totals.{NoTariffDeals, gain_total, grower_standby_total, pilot_standby_total, total_worth}
use Rattle.grid.proofs.Sums.{sum_le, sum_same, sum-zero, sum_tight, sum-add, sum_scale}
use Rattle.grid.proofs.Sums.{sum_swap, square_le, square_same, square_add}
use Rattle.market.proofs.Finding.{least, choose}
use Rattle.market.proofs.Gains.{spares_worth_gain}

-- A party takes some hours more, at u each, and gives up some less, for b in all, at least u each. The free hours a become a'.
module _ (standby u more less a a' b : ℕ) (even : more + a' ≡ less + a) (enough : less * u ≤ b) where
  weigh_at_standby : u ≡ standby → more * u + standby * a' ≤ b + standby * a
  weigh_at_standby e = rw e (omega (arith, ap (λ z. standby * z) even, ap (λ z. less * z) e))

  weigh_above : standby ≤ u → a ≤ a' → more * u + standby * a' ≤ b + standby * a
  weigh_above h freer =
      let extra : less ≡ more + (a' - a) = omega arith in
      let rest : a' ≡ a + (a' - a) = omega arith in
      omega (arith, ap (λ z. u * z) extra, ap (λ z. standby * z) rest, mul-le-mul_right (a' - a) h)

-- One party: with partner y it has f y hours of the free deal in one settlement, each earning e y, and f' y in another.
module _ (f f' e : ℕ → ℕ) (standby own k : ℕ) where
  abbrev more : ℕ → ℕ
  more y = f' y - f y

  abbrev less : ℕ → ℕ
  less y = f y - f' y

  -- u is the worth of a spare for each deal with more hours, and pays for all of them
  record Pays (Spare : ℕ → ℕ → Type 0) (u : ℕ) : Type 0 where
    spare : (y : ℕ) → y < k → f y < f' y → Spare y u
    pays : sum more k * u + standby * (own - sum f' k) ≤ sum (λ y. less y * e y) k + standby * (own - sum f k)

  balance : sum more k + sum f k ≡ sum less k + sum f' k
  balance = omega (
    arith,
    sum-add more f k,
    sum-add less f' k,
    sum_same (λ y. more y + f y) (λ y. less y + f' y) k (λ y h. omega arith),
  )

  -- the hours less bring at least u each
  less_worth : (u : ℕ) → ((y : ℕ) → y < k → 0 < less y → u ≤ e y) → sum less k * u ≤ sum (λ y. less y * e y) k
  less_worth u low = omega (
    arith,
    sum_scale less u k,
    sum_le (λ y. less y * u) (λ y. less y * e y) k (λ y h. elim (dec_lt 0 (less y)) [
      | yes p ↦ mul-le-mul_left (less y) (low y h p)
      | no p ↦ (let none : less y ≤ 0 = omega arith in omega (arith, mul-le-mul_right u none))
    ]),
  )

  module _ (fits : sum f k ≤ own) (fits' : sum f' k ≤ own) (earns : (y : ℕ) → y < k → 0 < f y → standby ≤ e y)
      {Spare : ℕ → ℕ → Type 0} (free : (y : ℕ) → sum f k < own → Spare y standby)
      (other : (y z : ℕ) → z < k → z ≢ y → 0 < f z → Spare y (e z)) where
    at_standby : ((y : ℕ) → y < k → f y < f' y → Spare y standby) → Pays Spare standby
    at_standby spare = record {
      spare = spare;
      pays = weigh_at_standby standby standby (sum more k) (sum less k) (own - sum f k) (own - sum f' k) _
          (omega (arith, balance)) (less_worth standby (λ y h p. earns y h (omega arith))) refl;
    }

    -- the cheapest of the hours less
    at_least : sum f' k ≤ sum f k → (z : ℕ) → z < k → 0 < less z → ((y : ℕ) → y < k → 0 < less y → e z ≤ e y) → Pays Spare (e z)
    at_least fewer z hz some low = record {
      spare = λ y hy h. other y z hz (λ p. omega (arith, ap f p, ap f' p)) (omega arith);
      pays = weigh_above standby (e z) (sum more k) (sum less k) (own - sum f k) (own - sum f' k) _
          (omega (arith, balance)) (less_worth (e z) low) (earns z hz (omega arith)) (omega arith);
    }

    paying : (u : ℕ) × Pays Spare u
    paying = elim (dec_lt (sum f k) (sum f' k)) [
      | yes p ↦ (standby, at_standby (λ y hy h. free y (omega arith)))
      | no p ↦ ⊎_elim
          (λ none. (
            standby,
            at_standby (λ y hy h.
                absurd (omega (arith, sum_tight f f' k (λ z hz. omega (arith, none z hz)) (omega arith) y hy))),
          ))
          (λ z. (e z.0, at_least (omega arith) z.0 z.1 z.2 z.3))
          (least less e k)
    ]

-- All growers, or all pilots, each with his u.
all_pay : (f f' e : ℕ → ℕ → ℕ) (standby own u : ℕ → ℕ) (n m : ℕ) →
    ((i : ℕ) → i < n → sum (λ j. f' i j - f i j) m * u i + standby i * (own i - sum (f' i) m) ≤
    sum (λ j. (f i j - f' i j) * e i j) m + standby i * (own i - sum (f i) m)) →
    sum_square (λ i j. (f' i j - f i j) * u i) n m + sum (λ i. standby i * (own i - sum (f' i) m)) n ≤
    sum_square (λ i j. (f i j - f' i j) * e i j) n m + sum (λ i. standby i * (own i - sum (f i) m)) n
all_pay f f' e standby own u n m each = omega (
  arith,
  sum_le _ _ n each,
  sum-add (λ i. sum (λ j. f' i j - f i j) m * u i) (λ i. standby i * (own i - sum (f' i) m)) n,
  sum-add (λ i. sum (λ j. (f i j - f' i j) * e i j) m) (λ i. standby i * (own i - sum (f i) m)) n,
  sum_same (λ i. sum (λ j. (f' i j - f i j) * u i) m) (λ i. sum (λ j. f' i j - f i j) m * u i) n
      (λ i hi. sum_scale (λ j. f' i j - f i j) (u i) m),
)

module _ (t : Ticket) (free-only : NoTariffDeals t) where
  -- All hours are those of free deals.
  module _ (h : DealHours) (fits : Fits t h) where
    used_grower : (i : ℕ) → i < t.growers → used_by_grower t h i ≡ sum (h Free i) t.pilots
    used_grower i hi = sum_same _ _ t.pilots (λ j hj. omega (arith, fits.deal Tariff i j hi hj, free-only i j hi hj))

    used_pilot : (j : ℕ) → j < t.pilots → used_by_pilot t h j ≡ sum (λ i. h Free i j) t.growers
    used_pilot j hj = sum_same _ _ t.growers (λ i hi. omega (arith, fits.deal Tariff i j hi hj, free-only i j hi hj))

    grower-rest : grower_standby_total t h ≡ sum (λ i. t.grower_standby i * (t.grower_hours i - sum (h Free i) t.pilots)) t.growers
    grower-rest = sum_same _ _ t.growers (λ i hi. rw (used_grower i hi))

    pilot-rest : pilot_standby_total t h ≡ sum (λ j. t.pilot_standby j * (t.pilot_hours j - sum (λ i. h Free i j) t.growers)) t.pilots
    pilot-rest = sum_same _ _ t.pilots (λ j hj. rw (used_pilot j hj))

  module _ (x : Settlement) (sound : Sound t x) (h' : DealHours) (fits' : Fits t h') where
    abbrev h : DealHours
    h = x.hours

    fits : Fits t h
    fits = sound.feasible.fits

    grower_pays : (i : ℕ) → i < t.growers → (u : ℕ) × Pays (h Free i) (h' Free i) (earned_by_grower t x Free i)
        (t.grower_standby i) (t.grower_hours i) t.pilots (SpareOfGrower t x Free i) u
    grower_pays i hi = paying (h Free i) (h' Free i) _ _ _ t.pilots
        (omega (arith, fits.grower i hi, used_grower h fits i hi))
        (omega (arith, fits'.grower i hi, used_grower h' fits' i hi))
        (λ j hj. sound.standby.grower Free i j hi hj)
        (λ j less. free_hour (omega (arith, used_grower h fits i hi)))
        (λ j l hl ne some. other_deal Free l hl (λ _. ne) some)

    pilot_pays : (j : ℕ) → j < t.pilots → (w : ℕ) × Pays (λ i. h Free i j) (λ i. h' Free i j) (λ i. x.pay i j)
        (t.pilot_standby j) (t.pilot_hours j) t.growers (λ i. SpareOfPilot t x Free i j) w
    pilot_pays j hj = paying (λ i. h Free i j) (λ i. h' Free i j) _ _ _ t.growers
        (omega (arith, fits.pilot j hj, used_pilot h fits j hj))
        (omega (arith, fits'.pilot j hj, used_pilot h' fits' j hj))
        (λ i hi. sound.standby.pilot Free i j hi hj)
        (λ i less. free_hour (omega (arith, used_pilot h fits j hj)))
        (λ i k hk ne some. other_deal Free k hk (λ _. ne) some)

    abbrev gained : ℕ → ℕ → ℕ
    gained i j = h' Free i j - h Free i j

    abbrev lost : ℕ → ℕ → ℕ
    lost i j = h Free i j - h' Free i j

    -- the sum over all pairs
    abbrev all : (ℕ → ℕ → ℕ) → ℕ
    all f = sum_square f t.growers t.pilots

    -- the joint gain of the hours lost is what both parties earned by them
    lost_shared : all (λ i j. lost i j * earned_by_grower t x Free i j) + all (λ i j. lost i j * x.pay i j) ≡
        all (λ i j. lost i j * t.joint_gain i j)
    lost_shared = omega (
      arith,
      square_add (λ i j. lost i j * earned_by_grower t x Free i j) (λ i j. lost i j * x.pay i j) t.growers t.pilots,
      square_same (λ i j. lost i j * earned_by_grower t x Free i j + lost i j * x.pay i j) (λ i j. lost i j * t.joint_gain i j)
          t.growers t.pilots (λ i j hi hj.
          let whole : earned_by_grower t x Free i j + x.pay i j ≡ t.joint_gain i j = omega (arith, sound.feasible.pay_in_gain i j hi hj) in
          omega (arith, ap (λ z. lost i j * z) whole)),
    )

    changed : gain_total t h' + all (λ i j. lost i j * t.joint_gain i j) ≡ gain_total t h + all (λ i j. gained i j * t.joint_gain i j)
    changed = omega (
      arith,
      square_add (λ i j. h' Free i j * t.joint_gain i j) (λ i j. lost i j * t.joint_gain i j) t.growers t.pilots,
      square_add (λ i j. h Free i j * t.joint_gain i j) (λ i j. gained i j * t.joint_gain i j) t.growers t.pilots,
      square_same (λ i j. h' Free i j * t.joint_gain i j + lost i j * t.joint_gain i j)
          (λ i j. h Free i j * t.joint_gain i j + gained i j * t.joint_gain i j) t.growers t.pilots (λ i j hi hj.
          let even : h' Free i j + lost i j ≡ h Free i j + gained i j = omega arith in
          omega (arith, ap (λ z. z * t.joint_gain i j) even)),
    )

    -- a deal that gains hours was unfilled, so its joint gain is no more than the two spares are worth
    gained_paid : (u w : ℕ → ℕ) → ((i j : ℕ) → i < t.growers → j < t.pilots → h Free i j < h' Free i j → t.joint_gain i j ≤ u i + w j) →
        all (λ i j. gained i j * t.joint_gain i j) ≤ all (λ i j. gained i j * u i) + all (λ i j. gained i j * w j)
    gained_paid u w paid = omega (
      arith,
      square_add (λ i j. gained i j * u i) (λ i j. gained i j * w j) t.growers t.pilots,
      square_le (λ i j. gained i j * t.joint_gain i j) (λ i j. gained i j * u i + gained i j * w j) t.growers t.pilots
          (λ i j hi hj. elim (dec_lt (h Free i j) (h' Free i j)) [
            | yes p ↦ omega (arith, mul-le-mul_left (gained i j) (paid i j hi hj p))
            | no p ↦ (let none : gained i j ≤ 0 = omega arith in omega (arith, mul-le-mul_right (t.joint_gain i j) none))
          ]),
    )

    pub best_total : total_worth t h' ≤ total_worth t x.hours
    best_total =
        let (u, growers-pay) = choose _ t.growers grower_pays in
        let (w, pilots-pay) = choose _ t.pilots pilot_pays in
        omega (
          arith,
          changed,
          lost_shared,
          gained_paid u w (λ i j hi hj p. spares_worth_gain t x sound.nothing_blocks i j (u i) (w j) hi hj
              (omega (arith, fits'.deal Free i j hi hj)) ((growers-pay i hi).spare j hj p) ((pilots-pay j hj).spare i hi p)),
          all_pay (h Free) (h' Free) (earned_by_grower t x Free) t.grower_standby t.grower_hours u t.growers t.pilots
              (λ i hi. (growers-pay i hi).pays),
          all_pay (λ j i. h Free i j) (λ j i. h' Free i j) (λ j i. x.pay i j) t.pilot_standby t.pilot_hours w
              t.pilots t.growers (λ j hj. (pilots-pay j hj).pays),
          sum_swap (λ i j. gained i j * w j) t.growers t.pilots,
          sum_swap (λ i j. lost i j * x.pay i j) t.growers t.pilots,
          grower-rest h fits,
          grower-rest h' fits',
          pilot-rest h fits,
          pilot-rest h' fits',
        )

-- Without standby the worth is the joint gain of all hours flown.
pub worth_is_gain : (t : Ticket) → ((i : ℕ) → i < t.growers → t.grower_standby i ≡ 0) →
    ((j : ℕ) → j < t.pilots → t.pilot_standby j ≡ 0) → (h : DealHours) → total_worth t h ≡ gain_total t h
worth_is_gain t growers_none pilots_none h = omega (
  arith,
  sum-zero t.growers,
  sum-zero t.pilots,
  sum_same (λ i. t.grower_standby i * (t.grower_hours i - used_by_grower t h i)) (λ i. 0) t.growers
      (λ i hi. rw (growers_none i hi) (omega arith)),
  sum_same (λ j. t.pilot_standby j * (t.pilot_hours j - used_by_pilot t h j)) (λ j. 0) t.pilots
      (λ j hj. rw (pilots_none j hj) (omega arith)),
)
