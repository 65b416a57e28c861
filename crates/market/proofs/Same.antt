-- Soundness depends only on the growers and pilots that there are.
-- Assumes nothing.
use Prim.Native.Nat.{ℕ, ◌+◌, ◌*◌, ◌-◌, ◌<◌}
use mathlib.Core.Path.{◌≡◌, sym, ap₂}
use native.Mathlib.Omega.{arith}
use Rattle.market.specs.declared.Deal.{Deal}
use Rattle.market.specs.declared.Deal.TheVariants.{Tariff, Free}
use Rattle.market.specs.Market.{Ticket, Settlement, cap, used_by_grower, used_by_pilot, Welcome}
use Rattle.market.specs.Market.{earned_by_grower, earned_by_pilot, SpareOfGrower, SpareOfPilot, free_hour, other_deal, Idle, Blocks, Sound}
use Rattle.market.specs.Same.{SameTicket, SameSettlement}
use Rattle.market.specs.Totals.{gain_total, grower_standby_total, pilot_standby_total, total_worth}
use Rattle.grid.proofs.Sums.{sum_same, square_same}

ticket_back : {t t' : Ticket} → SameTicket t t' → SameTicket t' t
ticket_back ticket = record {
  growers = sym ticket.growers;
  pilots = sym ticket.pilots;
  grower_hours = λ i hi. sym (ticket.grower_hours i (rw ticket.growers at hi));
  pilot_hours = λ j hj. sym (ticket.pilot_hours j (rw ticket.pilots at hj));
  tariff_cap = λ i j hi hj. sym (ticket.tariff_cap i j (rw ticket.growers at hi) (rw ticket.pilots at hj));
  tariff_gain = λ i j hi hj. sym (ticket.tariff_gain i j (rw ticket.growers at hi) (rw ticket.pilots at hj));
  tariff_pay = λ i j hi hj. sym (ticket.tariff_pay i j (rw ticket.growers at hi) (rw ticket.pilots at hj));
  free_cap = λ i j hi hj. sym (ticket.free_cap i j (rw ticket.growers at hi) (rw ticket.pilots at hj));
  joint_gain = λ i j hi hj. sym (ticket.joint_gain i j (rw ticket.growers at hi) (rw ticket.pilots at hj));
  grower_standby = λ i hi. sym (ticket.grower_standby i (rw ticket.growers at hi));
  pilot_standby = λ j hj. sym (ticket.pilot_standby j (rw ticket.pilots at hj));
}

settlement_back : {t t' : Ticket} {x x' : Settlement} → SameTicket t t' → SameSettlement t x x' → SameSettlement t' x' x
settlement_back ticket settlement = record {
  hours = λ d i j hi hj. sym (settlement.hours d i j (rw ticket.growers at hi) (rw ticket.pilots at hj));
  pay = λ i j hi hj. sym (settlement.pay i j (rw ticket.growers at hi) (rw ticket.pilots at hj));
}

module _ {t t' : Ticket} {x x' : Settlement} (ticket : SameTicket t t') (settlement : SameSettlement t x x') where
  pub same-grower : (i : ℕ) → i < t.growers → used_by_grower t' x'.hours i ≡ used_by_grower t x.hours i
  same-grower i hi = rw ticket.pilots
      (sum_same _ _ t.pilots (λ j hj. ap₂ ◌+◌ (settlement.hours Tariff i j hi hj) (settlement.hours Free i j hi hj)))

  pub same-pilot : (j : ℕ) → j < t.pilots → used_by_pilot t' x'.hours j ≡ used_by_pilot t x.hours j
  same-pilot j hj = rw ticket.growers
      (sum_same _ _ t.growers (λ i hi. ap₂ ◌+◌ (settlement.hours Tariff i j hi hj) (settlement.hours Free i j hi hj)))

  pub same-cap : (d : Deal) (i j : ℕ) → i < t.growers → j < t.pilots → cap t' d i j ≡ cap t d i j
  same-cap Tariff i j hi hj = ticket.tariff_cap i j hi hj
  same-cap Free i j hi hj = ticket.free_cap i j hi hj

  pub same_earned_grower : (d : Deal) (i j : ℕ) → i < t.growers → j < t.pilots → earned_by_grower t' x' d i j ≡ earned_by_grower t x d i j
  same_earned_grower Tariff i j hi hj = ticket.tariff_gain i j hi hj
  same_earned_grower Free i j hi hj = ap₂ ◌-◌ (ticket.joint_gain i j hi hj) (settlement.pay i j hi hj)

  pub same_earned_pilot : (d : Deal) (i j : ℕ) → i < t.growers → j < t.pilots → earned_by_pilot t' x' d i j ≡ earned_by_pilot t x d i j
  same_earned_pilot Tariff i j hi hj = ticket.tariff_pay i j hi hj
  same_earned_pilot Free i j hi hj = settlement.pay i j hi hj

  same_welcome : (d : Deal) (i j : ℕ) → i < t.growers → j < t.pilots → Welcome t d i j → Welcome t' d i j
  same_welcome Tariff i j hi hj w = omega (
    arith,
    ticket.tariff_gain i j hi hj,
    ticket.tariff_pay i j hi hj,
    ticket.grower_standby i hi,
    ticket.pilot_standby j hj,
  )
  same_welcome Free i j hi hj w = omega (arith, ticket.joint_gain i j hi hj, ticket.grower_standby i hi, ticket.pilot_standby j hj)

  same_spare_grower : {d : Deal} (i j : ℕ) {w : ℕ} → i < t.growers → j < t.pilots → SpareOfGrower t x d i j w →
      SpareOfGrower t' x' d i j w
  same_spare_grower i j hi hj (free_hour h) =
      rw (← (ticket.grower_standby i hi)) (free_hour (omega (arith, same-grower i hi, ticket.grower_hours i hi)))
  same_spare_grower i j hi hj (other_deal e l hl ne h) =
      rw (← (same_earned_grower e i l hi hl))
      (other_deal e l (omega (arith, ticket.pilots)) ne (omega (arith, settlement.hours e i l hi hl)))

  same_spare_pilot : {d : Deal} (i j : ℕ) {w : ℕ} → i < t.growers → j < t.pilots → SpareOfPilot t x d i j w →
      SpareOfPilot t' x' d i j w
  same_spare_pilot i j hi hj (free_hour h) =
      rw (← (ticket.pilot_standby j hj)) (free_hour (omega (arith, same-pilot j hj, ticket.pilot_hours j hj)))
  same_spare_pilot i j hi hj (other_deal e k hk ne h) =
      rw (← (same_earned_pilot e k j hk hj))
      (other_deal e k (omega (arith, ticket.growers)) ne (omega (arith, settlement.hours e k j hk hj)))

-- The same there and back.
module _ {t t' : Ticket} {x x' : Settlement} (ticket : SameTicket t t') (settlement : SameSettlement t x x') where
  -- Where one blocks, so does the other.
  same_blocks : (d : Deal) (i j : ℕ) → i < t.growers → j < t.pilots → Blocks t' x' d i j → Blocks t x d i j
  same_blocks d i j hi hj = go d
    where
      ticket' : SameTicket t' t
      ticket' = ticket_back ticket

      settlement' : SameSettlement t' x' x
      settlement' = settlement_back ticket settlement

      hi' : i < t'.growers
      hi' = omega (arith, ticket.growers)

      hj' : j < t'.pilots
      hj' = omega (arith, ticket.pilots)

      go : (d : Deal) → Blocks t' x' d i j → Blocks t x d i j
      go Tariff (wg, wp, room, g, p, less, less') = (
        wg,
        wp,
        omega (arith, settlement.hours Tariff i j hi hj, ticket.tariff_cap i j hi hj),
        same_spare_grower ticket' settlement' i j hi' hj' g,
        same_spare_pilot ticket' settlement' i j hi' hj' p,
        omega (arith, ticket.tariff_gain i j hi hj),
        omega (arith, ticket.tariff_pay i j hi hj),
      )
      go Free (wg, wp, room, g, p, less) = (
        wg,
        wp,
        omega (arith, settlement.hours Free i j hi hj, ticket.free_cap i j hi hj),
        (same_spare_grower ticket' settlement' i j hi' hj' g.0, λ v spare. g.1 v (same_spare_grower ticket settlement i j hi hj spare)),
        (same_spare_pilot ticket' settlement' i j hi' hj' p.0, λ v spare. p.1 v (same_spare_pilot ticket settlement i j hi hj spare)),
        omega (arith, ticket.joint_gain i j hi hj),
      )

  same-idle : (d : Deal) (i j : ℕ) → i < t.growers → j < t.pilots → Idle t' x' d i j → Idle t x d i j
  same-idle d i j hi hj idle = record {
    unfilled = omega (arith, idle.unfilled, settlement.hours d i j hi hj, same-cap ticket settlement d i j hi hj);
    grower = omega (arith, idle.grower, same-grower ticket settlement i hi, ticket.grower_hours i hi);
    pilot = omega (arith, idle.pilot, same-pilot ticket settlement j hj, ticket.pilot_hours j hj);
    welcome = same_welcome (ticket_back ticket) (settlement_back ticket settlement) d i j
        (omega (arith, ticket.growers)) (omega (arith, ticket.pilots)) idle.welcome;
  }

  -- and the worth of all hours is the same
  pub worth-same : total_worth t' x'.hours ≡ total_worth t x.hours
  worth-same = ap₂ ◌+◌ (ap₂ ◌+◌ gains growers) pilots
    where
      gains : gain_total t' x'.hours ≡ gain_total t x.hours
      gains = rw (ticket.growers, ticket.pilots)
          (square_same _ _ t.growers t.pilots (λ i j hi hj. ap₂ ◌*◌ (settlement.hours Free i j hi hj) (ticket.joint_gain i j hi hj)))

      growers : grower_standby_total t' x'.hours ≡ grower_standby_total t x.hours
      growers = rw ticket.growers (sum_same _ _ t.growers
          (λ i hi. ap₂ ◌*◌ (ticket.grower_standby i hi) (ap₂ ◌-◌ (ticket.grower_hours i hi) (same-grower ticket settlement i hi))))

      pilots : pilot_standby_total t' x'.hours ≡ pilot_standby_total t x.hours
      pilots = rw ticket.pilots (sum_same _ _ t.pilots
          (λ j hj. ap₂ ◌*◌ (ticket.pilot_standby j hj) (ap₂ ◌-◌ (ticket.pilot_hours j hj) (same-pilot ticket settlement j hj))))

  pub sound_same : Sound t x → Sound t' x'
  sound_same sound = record {
    feasible = record {
      fits = record {
        deal = λ d i j hi hj. (let (a, b) = reach i j hi hj in
            omega (arith, sound.feasible.fits.deal d i j a b, settlement.hours d i j a b, same-cap ticket settlement d i j a b));
        grower = λ i hi. (let a = grower_reach i hi in
            omega (arith, sound.feasible.fits.grower i a, same-grower ticket settlement i a, ticket.grower_hours i a));
        pilot = λ j hj. (let b = pilot_reach j hj in
            omega (arith, sound.feasible.fits.pilot j b, same-pilot ticket settlement j b, ticket.pilot_hours j b));
      };
      pay_in_gain = λ i j hi hj. (let (a, b) = reach i j hi hj in
          omega (arith, sound.feasible.pay_in_gain i j a b, settlement.pay i j a b, ticket.joint_gain i j a b));
      pay_nothing = λ i j hi hj none. (let (a, b) = reach i j hi hj in
          omega (arith, sound.feasible.pay_nothing i j a b (omega (arith, settlement.hours Free i j a b)), settlement.pay i j a b));
    };
    standby = record {
      grower = λ d i j hi hj some. (let (a, b) = reach i j hi hj in omega (
        arith,
        sound.standby.grower d i j a b (omega (arith, settlement.hours d i j a b)),
        same_earned_grower ticket settlement d i j a b,
        ticket.grower_standby i a,
      ));
      pilot = λ d i j hi hj some. (let (a, b) = reach i j hi hj in omega (
        arith,
        sound.standby.pilot d i j a b (omega (arith, settlement.hours d i j a b)),
        same_earned_pilot ticket settlement d i j a b,
        ticket.pilot_standby j b,
      ));
    };
    nothing_idle = λ d i j hi hj idle. (let (a, b) = reach i j hi hj in sound.nothing_idle d i j a b (same-idle d i j a b idle));
    nothing_blocks = λ d i j hi hj b. sound.nothing_blocks d i j (grower_reach i hi) (pilot_reach j hj)
        (same_blocks d i j (grower_reach i hi) (pilot_reach j hj) b);
  }
    where
      grower_reach : (i : ℕ) → i < t'.growers → i < t.growers
      grower_reach i hi = omega (arith, ticket.growers)

      pilot_reach : (j : ℕ) → j < t'.pilots → j < t.pilots
      pilot_reach j hj = omega (arith, ticket.pilots)

      reach : (i j : ℕ) → i < t'.growers → j < t'.pilots → (i < t.growers) × (j < t.pilots)
      reach i j hi hj = (grower_reach i hi, pilot_reach j hj)
