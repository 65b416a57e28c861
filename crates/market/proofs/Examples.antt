-- The ten settlements of the examples are what they are said to be.
-- Assumes nothing.
use Prim.Native.Nat.{ℕ, ◌≤◌, ◌<◌}
use mathlib.Core.Path.{◌≡◌, refl}
use native.Mathlib.Omega.{arith}
use Rattle.grid.specs.Sum.{sum}
use Rattle.market.specs.declared.Deal.{Deal}
use Rattle.market.specs.declared.Deal.TheVariants.{Tariff, Free}
use Rattle.market.specs.Market.{Feasible, Idle, Blocks, Sound, earned_by_grower}
use Rattle.market.specs.Market.{SpareOfGrower, SpareOfPilot, free_hour, other_deal}
use Rattle.market.specs.Examples.{ticket_a, ticket_b, ticket_c, ticket_d, agreed, agreed_with, Examples}
use Rattle.market.proofs.Finding.{upto}

-- what is below 1 is 0, and what is below 2 is 0 or 1
one : (P : ℕ → Type 0) → P 0 → (x : ℕ) → x < 1 → P x
one P p = upto P 0 (λ x h. absurd (omega arith)) p

two : (P : ℕ → Type 0) → P 0 → P 1 → (x : ℕ) → x < 2 → P x
two P p q = upto P 1 (one P p) q

-- all pairs and deals of one grower, with one pilot or two
pairs : (Q : ℕ → ℕ → Type 0) → Q 0 0 → (i j : ℕ) → i < 1 → j < 1 → Q i j
pairs Q p i j hi hj = one (λ k. Q k j) (one (Q 0) p j hj) i hi

pairs2 : (Q : ℕ → ℕ → Type 0) → Q 0 0 → Q 0 1 → (i j : ℕ) → i < 1 → j < 2 → Q i j
pairs2 Q p p' i j hi hj = one (λ k. Q k j) (two (Q 0) p p' j hj) i hi

deals : (Q : Deal → ℕ → ℕ → Type 0) → Q Tariff 0 0 → Q Free 0 0 → (d : Deal) (i j : ℕ) → i < 1 → j < 1 → Q d i j
deals Q p q Tariff = pairs (Q Tariff) p
deals Q p q Free = pairs (Q Free) q

deals2 : (Q : Deal → ℕ → ℕ → Type 0) → Q Tariff 0 0 → Q Tariff 0 1 → Q Free 0 0 → Q Free 0 1 →
    (d : Deal) (i j : ℕ) → i < 1 → j < 2 → Q d i j
deals2 Q p p' q q' Tariff = pairs2 (Q Tariff) p p'
deals2 Q p p' q q' Free = pairs2 (Q Free) q q'

a1 : Sound ticket_a (agreed 1 0 0)
unfolding sum
a1 = record {
  feasible = record {
    fits = record {
      deal = deals _ (omega arith) (omega arith);
      grower = λ i hi. omega arith;
      pilot = λ j hj. omega arith;
    };
    pay_in_gain = λ i j hi hj. omega arith;
    pay_nothing = λ i j hi hj h. omega arith;
  };
  standby = record { grower = λ d i j hi hj h. omega arith; pilot = λ d i j hi hj h. omega arith };
  nothing_idle = deals _ (λ idle. omega arith) (λ idle. omega arith);
  nothing_blocks = deals _ (λ b. omega (arith, b.2)) (λ b. omega (arith, b.2));
}

a2 : Idle ticket_a (agreed 0 0 0) Tariff 0 0
unfolding sum
a2 = record { unfilled = omega arith; grower = omega arith; pilot = omega arith; welcome = omega arith }

a4 : ¬ Feasible ticket_a (agreed 1 0 5)
a4 f = omega (arith, f.pay_nothing 0 0 (omega arith) (omega arith) refl)

b1_spare : {w : ℕ} → SpareOfGrower ticket_b (agreed_with 0 1 3) Free 0 1 w → 7 ≤ w
unfolding sum
b1_spare (free_hour h) = absurd (omega arith)
b1_spare (other_deal Tariff l hl ne h) = absurd (omega arith)
b1_spare (other_deal Free l hl ne h) = two
    (λ k. 0 < (agreed_with 0 1 3).hours Free 0 k → 7 ≤ earned_by_grower ticket_b (agreed_with 0 1 3) Free 0 k)
    (λ h. omega arith) (λ h. absurd (omega arith)) l hl h

b1 : Sound ticket_b (agreed_with 0 1 3)
unfolding sum
b1 = record {
  feasible = record {
    fits = record {
      deal = deals2 _ (omega arith) (omega arith) (omega arith) (omega arith);
      grower = λ i hi. omega arith;
      pilot = two _ (omega arith) (omega arith);
    };
    pay_in_gain = pairs2 _ (omega arith) (omega arith);
    pay_nothing = pairs2 _ (λ h. omega arith) (λ h. omega arith);
  };
  standby = record { grower = λ d i j hi hj h. omega arith; pilot = λ d i j hi hj h. omega arith };
  nothing_idle = deals2 _ (λ idle. omega arith) (λ idle. omega arith) (λ idle. omega arith) (λ idle. omega arith);
  nothing_blocks = deals2 _
      (λ b. omega (arith, b.2))
      (λ b. omega (arith, b.2))
      (λ b. omega (arith, b.2))
      (λ b. omega (arith, b1_spare b.3.0));
}

-- the cheapest spares of a blocking free deal
b2_grower : (w : ℕ) → SpareOfGrower ticket_b (agreed_with 0 1 4) Free 0 1 w → 6 ≤ w
unfolding sum
b2_grower w (free_hour h) = absurd (omega arith)
b2_grower w (other_deal Tariff l hl ne h) = absurd (omega arith)
b2_grower w (other_deal Free l hl ne h) = two
    (λ k. 0 < (agreed_with 0 1 4).hours Free 0 k → 6 ≤ earned_by_grower ticket_b (agreed_with 0 1 4) Free 0 k)
    (λ h. omega arith) (λ h. absurd (omega arith)) l hl h

b2 : Blocks ticket_b (agreed_with 0 1 4) Free 0 1
unfolding sum
b2 = (
  6,
  0,
  omega arith,
  (other_deal Free 0 (omega arith) (λ _ p. omega arith) (omega arith), b2_grower),
  (free_hour (omega arith), λ w spare. omega arith),
  omega arith,
)

b3_grower : (w : ℕ) → SpareOfGrower ticket_b (agreed_with 1 1 0) Free 0 0 w → 7 ≤ w
unfolding sum
b3_grower w (free_hour h) = absurd (omega arith)
b3_grower w (other_deal Tariff l hl ne h) = absurd (omega arith)
b3_grower w (other_deal Free l hl ne h) = two
    (λ k. 0 < (agreed_with 1 1 0).hours Free 0 k → 7 ≤ earned_by_grower ticket_b (agreed_with 1 1 0) Free 0 k)
    (λ h. absurd (omega arith)) (λ h. omega arith) l hl h

b3 : Blocks ticket_b (agreed_with 1 1 0) Free 0 0
unfolding sum
b3 = (
  7,
  0,
  omega arith,
  (other_deal Free 1 (omega arith) (λ _ p. omega arith) (omega arith), b3_grower),
  (free_hour (omega arith), λ w spare. omega arith),
  omega arith,
)

tariff_not_free : Tariff ≡ Free → ⊥
tariff_not_free p = let z : ◌≡◌ {A = ℕ} 0 1 = cc in omega arith

c1_grower : (w : ℕ) → SpareOfGrower ticket_c (agreed 1 0 0) Free 0 0 w → 5 ≤ w
unfolding sum
c1_grower w (free_hour h) = absurd (omega arith)
c1_grower w (other_deal Tariff l hl ne h) = omega arith
c1_grower w (other_deal Free l hl ne h) = absurd (omega arith)

c1_pilot : (w : ℕ) → SpareOfPilot ticket_c (agreed 1 0 0) Free 0 0 w → 5 ≤ w
unfolding sum
c1_pilot w (free_hour h) = absurd (omega arith)
c1_pilot w (other_deal Tariff k hk ne h) = omega arith
c1_pilot w (other_deal Free k hk ne h) = absurd (omega arith)

c1 : Blocks ticket_c (agreed 1 0 0) Free 0 0
c1 = (
  5,
  5,
  omega arith,
  (other_deal Tariff 0 (omega arith) (λ p _. tariff_not_free p) (omega arith), c1_grower),
  (other_deal Tariff 0 (omega arith) (λ p _. tariff_not_free p) (omega arith), c1_pilot),
  omega arith,
)

c2_pilot : {w : ℕ} → SpareOfPilot ticket_c (agreed 0 1 12) Tariff 0 0 w → 12 ≤ w
unfolding sum
c2_pilot (free_hour h) = absurd (omega arith)
c2_pilot (other_deal Tariff k hk ne h) = absurd (omega arith)
c2_pilot (other_deal Free k hk ne h) = omega arith

c2 : Sound ticket_c (agreed 0 1 12)
unfolding sum
c2 = record {
  feasible = record {
    fits = record { deal = deals _ (omega arith) (omega arith); grower = λ i hi. omega arith; pilot = λ j hj. omega arith };
    pay_in_gain = λ i j hi hj. omega arith;
    pay_nothing = λ i j hi hj h. omega arith;
  };
  standby = record { grower = λ d i j hi hj h. omega arith; pilot = λ d i j hi hj h. omega arith };
  nothing_idle = deals _ (λ idle. omega arith) (λ idle. omega arith);
  nothing_blocks = deals _ (λ b. omega (arith, c2_pilot b.4)) (λ b. omega (arith, b.2));
}

-- the grower's hour in the deal itself is no spare for it
d1_grower : {w : ℕ} → SpareOfGrower ticket_d (agreed 0 1 5) Free 0 0 w → ⊥
unfolding sum
d1_grower (free_hour h) = omega arith
d1_grower (other_deal Tariff l hl ne h) = omega arith
d1_grower (other_deal Free l hl ne h) = ne refl (omega arith)

d1 : Sound ticket_d (agreed 0 1 5)
unfolding sum
d1 = record {
  feasible = record {
    fits = record { deal = deals _ (omega arith) (omega arith); grower = λ i hi. omega arith; pilot = λ j hj. omega arith };
    pay_in_gain = λ i j hi hj. omega arith;
    pay_nothing = λ i j hi hj h. omega arith;
  };
  standby = record { grower = λ d i j hi hj h. omega arith; pilot = λ d i j hi hj h. omega arith };
  nothing_idle = deals _ (λ idle. omega arith) (λ idle. omega arith);
  nothing_blocks = deals _ (λ b. omega (arith, b.2)) (λ b. d1_grower b.3.0);
}

pub examples : Examples
examples = record { a1 = a1; a2 = a2; a3 = omega arith; a4 = a4; b1 = b1; b2 = b2; b3 = b3; c1 = c1; c2 = c2; d1 = d1 }
