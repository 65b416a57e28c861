-- Four tickets and ten settlements of them, as far as they say what is sound and why not.
-- Assumes nothing.
use Rattle.std.specs.Prelude.{ℕ, ◌<◌, eqb}
use Rattle.grid.specs.Pick.{pick}
use Rattle.market.specs.declared.Deal.{Deal}
use Rattle.market.specs.declared.Deal.TheVariants.{Tariff, Free}
use Rattle.market.specs.Market.{Ticket, Settlement, cap, Feasible, Idle, Blocks, Sound}

-- a ticket of one grower and one or two pilots, with no standby
abbrev ticket : ℕ → ℕ → ℕ → ℕ → ℕ → ℕ → ℕ → (ℕ → ℕ) → Ticket
ticket m grower_hours pilot_hours tariff_cap tariff_gain tariff_pay free_cap joint_gain = record {
  growers = 1;
  pilots = m;
  grower_hours = λ i. grower_hours;
  pilot_hours = λ j. pilot_hours;
  tariff_cap = λ i j. tariff_cap;
  tariff_gain = λ i j. tariff_gain;
  tariff_pay = λ i j. tariff_pay;
  free_cap = λ i j. free_cap;
  joint_gain = λ i j. joint_gain j;
  grower_standby = λ i. 0;
  pilot_standby = λ j. 0;
}

abbrev pub ticket_a : Ticket
ticket_a = ticket 1 3 2 1 4 3 0 (λ j. 0)

abbrev pub ticket_b : Ticket
ticket_b = ticket 2 1 1 0 0 0 1 (λ j. pick (eqb j 0) 10 7)

abbrev pub ticket_c : Ticket
ticket_c = ticket 1 1 1 1 5 5 1 (λ j. 12)

abbrev pub ticket_d : Ticket
ticket_d = ticket 1 1 2 0 0 0 2 (λ j. 10)

-- tariff hours, free-deal hours and pay, the same with each pilot, or only with pilot l
abbrev both : (ℕ → ℕ) → (ℕ → ℕ) → Deal → ℕ → ℕ → ℕ
both tariff free Tariff i j = tariff j
both tariff free Free i j = free j

abbrev pub agreed : ℕ → ℕ → ℕ → Settlement
agreed tariff free pay = record { hours = both (λ j. tariff) (λ j. free); pay = λ i j. pay }

abbrev pub agreed_with : ℕ → ℕ → ℕ → Settlement
agreed_with l free pay = record { hours = both (λ j. 0) (λ j. pick (eqb j l) free 0); pay = λ i j. pick (eqb j l) pay 0 }

pub record Examples : Type 0 where
  pub a1 : Sound ticket_a (agreed 1 0 0)
  pub a2 : Idle ticket_a (agreed 0 0 0) Tariff 0 0
  pub a3 : cap ticket_a Tariff 0 0 < (agreed 2 0 0).hours Tariff 0 0
  pub a4 : ¬ Feasible ticket_a (agreed 1 0 5)
  pub b1 : Sound ticket_b (agreed_with 0 1 3)
  pub b2 : Blocks ticket_b (agreed_with 0 1 4) Free 0 1
  pub b3 : Blocks ticket_b (agreed_with 1 1 0) Free 0 0
  pub c1 : Blocks ticket_c (agreed 1 0 0) Free 0 0
  pub c2 : Sound ticket_c (agreed 0 1 12)
  pub d1 : Sound ticket_d (agreed 0 1 5)
