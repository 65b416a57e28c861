-- Rows and squares that hold what a list says mean what the list means.
-- Assumes nothing.
use Prim.Native.Nat.{ℕ, ◌≤◌, ◌<◌, min}
use mathlib.Core.Path.{◌≡◌, refl, sym}
use mathlib.Core.List.{List}
use native.Mathlib.Omega.{arith}
use Rattle.grid.specs.Grid.{Grid, at}
use Rattle.market.specs.declared.Deal.{Deal}
use Rattle.market.specs.declared.Deal.TheVariants.{Tariff, Free}
use Rattle.market.specs.Market.{Ticket}
use Rattle.market.specs.Tables.{ticket_in, settlement_in}
use Rattle.market.specs.Same.{SameTicket, SameSettlement}
use Rattle.tables.specs.declared.Quantity.{Quantity}
use Rattle.tables.specs.declared.Quantity.TheVariants.{TariffCap, TariffGain, TariffPay, FreeCap, JointGain}
use Rattle.tables.specs.declared.Quantity.TheVariants.{TariffHours, FreeDealHours, Pay}
use Rattle.tables.specs.View.{growers_of, pilots_of, quantity_of, ticket_of, first_sixteen, settlement_of, Holds}
use Rattle.tables.specs.View.{HoldTicket, HoldSettlement}

-- as many growers and pilots of a list as a square has room for
module _ (list : List ℕ) (n m : ℕ) (en : n ≡ min 16 (growers_of list)) (em : m ≡ min 16 (pilots_of list)) where
  -- the cell of a pair
  first_held : (quantity : Quantity) {square : Grid} → Holds quantity list square → (i j : ℕ) → i < n → j < m →
      quantity_of quantity list i j ≡ at square i j
  first_held quantity h i j hi hj = sym (h.inner i j (omega arith) (omega arith))

  pub first-same : {grower_hours pilot_hours : List ℕ} {tariff_cap tariff_gain tariff_pay free_cap joint_gain : Grid} →
      HoldTicket list grower_hours pilot_hours tariff_cap tariff_gain tariff_pay free_cap joint_gain →
      SameTicket (ticket_in n m grower_hours pilot_hours tariff_cap tariff_gain tariff_pay free_cap joint_gain) (first_sixteen (ticket_of list))
  first-same h = record {
    growers = sym en;
    pilots = sym em;
    grower_hours = λ i hi. sym (h.grower_hours_in.inner i (omega arith));
    pilot_hours = λ j hj. sym (h.pilot_hours_in.inner j (omega arith));
    tariff_cap = first_held TariffCap h.tariff_cap_in;
    tariff_gain = first_held TariffGain h.tariff_gain_in;
    tariff_pay = first_held TariffPay h.tariff_pay_in;
    free_cap = first_held FreeCap h.free_cap_in;
    joint_gain = first_held JointGain h.joint_gain_in;
    grower_standby = λ i hi. refl;
    pilot_standby = λ j hj. refl;
  }

-- where that is all of them
module _ (list : List ℕ) (n m : ℕ) (en : n ≡ growers_of list) (em : m ≡ pilots_of list) (hn : n ≤ 16) (hm : m ≤ 16) where
  abbrev all_growers : min 16 (growers_of list) ≡ growers_of list
  all_growers = omega arith

  abbrev all_pilots : min 16 (pilots_of list) ≡ pilots_of list
  all_pilots = omega arith

  pub held : (quantity : Quantity) {square : Grid} → Holds quantity list square → (i j : ℕ) → i < n → j < m →
      quantity_of quantity list i j ≡ at square i j
  held = first_held list n m (omega arith) (omega arith)

  pub ticket-same : {grower_hours pilot_hours : List ℕ} {tariff_cap tariff_gain tariff_pay free_cap joint_gain : Grid} →
      HoldTicket list grower_hours pilot_hours tariff_cap tariff_gain tariff_pay free_cap joint_gain →
      SameTicket (ticket_in n m grower_hours pilot_hours tariff_cap tariff_gain tariff_pay free_cap joint_gain) (ticket_of list)
  ticket-same h = rw (all_growers, all_pilots) at (first-same list n m (omega arith) (omega arith) h)

  -- of any ticket with so many growers and pilots
  pub settlement-same : {tariff_hours free_deal_hours pay : Grid} → HoldSettlement list tariff_hours free_deal_hours pay → (t : Ticket) →
      t.growers ≡ n → t.pilots ≡ m → SameSettlement t (settlement_in tariff_hours free_deal_hours pay) (settlement_of list)
  settlement-same {tariff_hours} {free_deal_hours} {pay} h t et eu = record {
    hours = hours;
    pay = λ i j hi hj. held Pay h.pay_in i j (omega arith) (omega arith);
  }
    where
      hours : (d : Deal) (i j : ℕ) → i < t.growers → j < t.pilots →
          (settlement_of list).hours d i j ≡ (settlement_in tariff_hours free_deal_hours pay).hours d i j
      hours Tariff i j hi hj = held TariffHours h.tariff_hours_in i j (omega arith) (omega arith)
      hours Free i j hi hj = held FreeDealHours h.free_deal_hours_in i j (omega arith) (omega arith)
