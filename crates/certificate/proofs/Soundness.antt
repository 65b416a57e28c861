-- What is certified is sound: the least hours of all parties make a certificate.
-- Assumes nothing.
use Prim.Native.Nat.{ℕ, ◌-◌, ◌≤◌, ◌<◌}
use mathlib.Core.Path.{◌≡◌}
use mathlib.Core.Bool.{true, ◌&&◌}
use native.Mathlib.Omega.{arith}
use borrow.Author.Tests.{leb-true}
use Rattle.market.specs.declared.Deal.{Deal}
use Rattle.market.specs.declared.Deal.TheVariants.{Tariff, Free}
use Rattle.market.specs.Market.{Ticket, Settlement, Fits, GrowerHasFreeHour, PilotHasFreeHour, Idle, Sound}
use Rattle.market.specs.Market.{cap, earned_by_grower, earned_by_pilot}
use Rattle.market.specs.Certificate.{Certificate}
use Rattle.market.proofs.Certificate.{certificate_sound}
use Rattle.grid.specs.Every.{every}
use Rattle.certificate.specs.Certified.{grower, pilot, grower_fits, pilot_fits, kept, certified}
use Rattle.grid.proofs.EveryLaws.{both_hold, every-at}
use Rattle.certificate.proofs.LeastLaws.{party_free_hour, party_tariff, party_free}
use Rattle.certificate.proofs.Tests.{Kept, kept-true}

module _ (t : Ticket) (x : Settlement) (yes : certified t x ≡ true) where
  abbrev KeptAt : ℕ → ℕ → Type 0
  KeptAt i j = Kept (grower t x i) (pilot t x j) (t.tariff_cap i j) (t.tariff_gain i j) (t.tariff_pay i j) (t.free_cap i j)
      (t.joint_gain i j) (x.hours Tariff i j) (x.hours Free i j) (x.pay i j)

  -- the three parts of the test
  parts : (every (grower_fits t x) t.growers ≡ true) × (every (pilot_fits t x) t.pilots ≡ true) ×
      (every (λ i. every (kept t x i) t.pilots) t.growers ≡ true)
  parts =
      let e₁ = both_hold (every (grower_fits t x) t.growers && every (pilot_fits t x) t.pilots)
      (every (λ i. every (kept t x i) t.pilots) t.growers) yes in
      let e₂ = both_hold (every (grower_fits t x) t.growers) (every (pilot_fits t x) t.pilots) e₁.0 in
      (e₂.0, e₂.1, e₁.1)

  pair : (i j : ℕ) → i < t.growers → j < t.pilots → KeptAt i j
  pair i j hi hj = kept-true _ _ _ _ _ _ _ _ _ _ (every-at (kept t x i) t.pilots j (every-at _ t.growers i parts.2 hi) hj)

  within : (d : Deal) (i j : ℕ) → i < t.growers → j < t.pilots → x.hours d i j ≤ cap t d i j
  within Tariff i j hi hj = (pair i j hi hj).tariff_within
  within Free i j hi hj = (pair i j hi hj).free_within

  fits : Fits t x.hours
  fits = record {
    deal = within;
    grower = λ i hi. leb-true _ _ (every-at _ t.growers i parts.0 hi);
    pilot = λ j hj. leb-true _ _ (every-at _ t.pilots j parts.1 hj);
  }

  grower_earns : (d : Deal) (i j : ℕ) → i < t.growers → j < t.pilots → 0 < x.hours d i j →
      t.grower_standby i ≤ earned_by_grower t x d i j
  grower_earns Tariff i j hi hj some = ((pair i j hi hj).tariff_earns some).0
  grower_earns Free i j hi hj some = ((pair i j hi hj).free_earns some).0

  pilot_earns : (d : Deal) (i j : ℕ) → i < t.growers → j < t.pilots → 0 < x.hours d i j →
      t.pilot_standby j ≤ earned_by_pilot t x d i j
  pilot_earns Tariff i j hi hj some = ((pair i j hi hj).tariff_earns some).1
  pilot_earns Free i j hi hj some = ((pair i j hi hj).free_earns some).1

  -- no hour is worth less than the least of its owner
  module _ (i : ℕ) (hi : i < t.growers) where
    grower-free : GrowerHasFreeHour t x i → (grower t x i).least ≤ t.grower_standby i
    grower-free h = party_free_hour _ _ (x.hours Tariff i) (t.tariff_gain i) (x.hours Free i) (λ j. t.joint_gain i j - x.pay i j)
        t.pilots (omega arith)

    grower_hour_lem : (d : Deal) (j : ℕ) → j < t.pilots → 0 < x.hours d i j → (grower t x i).least ≤ earned_by_grower t x d i j
    grower_hour_lem Tariff j hj some = party_tariff _ _ (x.hours Tariff i) (t.tariff_gain i) (x.hours Free i)
        (λ l. t.joint_gain i l - x.pay i l) t.pilots j hj some (grower_earns Tariff i j hi hj some)
    grower_hour_lem Free j hj some = party_free _ _ (x.hours Tariff i) (t.tariff_gain i) (x.hours Free i)
        (λ l. t.joint_gain i l - x.pay i l) t.pilots j hj some (grower_earns Free i j hi hj some)

  module _ (j : ℕ) (hj : j < t.pilots) where
    pilot-free : PilotHasFreeHour t x j → (pilot t x j).least ≤ t.pilot_standby j
    pilot-free h = party_free_hour _ _ (λ k. x.hours Tariff k j) (λ k. t.tariff_pay k j) (λ k. x.hours Free k j) (λ k. x.pay k j)
        t.growers (omega arith)

    pilot_hour_lem : (d : Deal) (i : ℕ) → i < t.growers → 0 < x.hours d i j → (pilot t x j).least ≤ earned_by_pilot t x d i j
    pilot_hour_lem Tariff i hi some = party_tariff _ _ (λ k. x.hours Tariff k j) (λ k. t.tariff_pay k j) (λ k. x.hours Free k j)
        (λ k. x.pay k j) t.growers i hi some (pilot_earns Tariff i j hi hj some)
    pilot_hour_lem Free i hi some = party_free _ _ (λ k. x.hours Tariff k j) (λ k. t.tariff_pay k j) (λ k. x.hours Free k j)
        (λ k. x.pay k j) t.growers i hi some (pilot_earns Free i j hi hj some)

  not_idle : (d : Deal) (i j : ℕ) → i < t.growers → j < t.pilots → ¬ Idle t x d i j
  not_idle Tariff i j hi hj idle =
      (pair i j hi hj).tariff_idle idle.unfilled (omega (arith, idle.grower)) (omega (arith, idle.pilot)) idle.welcome.0
      idle.welcome.1
  not_idle Free i j hi hj idle = (pair i j hi hj).free_idle idle.unfilled (omega (arith, idle.grower)) (omega (arith, idle.pilot))
      idle.welcome

  pub certificate : Certificate t x (λ i. (grower t x i).least) (λ j. (pilot t x j).least)
  certificate = record {
    feasible = record {
      fits = fits;
      pay_in_gain = λ i j hi hj. (pair i j hi hj).pay_in_gain;
      pay_nothing = λ i j hi hj. (pair i j hi hj).pay_nothing;
    };
    standby = record { grower = grower_earns; pilot = pilot_earns };
    nothing_idle = not_idle;
    grower_free = grower-free;
    grower_hour = λ d i j hi hj. grower_hour_lem i hi d j hj;
    pilot_free = pilot-free;
    pilot_hour = λ d i j hi hj. pilot_hour_lem j hj d i hi;
    tariff = λ i j hi hj. (pair i j hi hj).tariff;
    free = λ i j hi hj. (pair i j hi hj).free;
  }

  pub certified_sound : Sound t x
  certified_sound = certificate_sound certificate
