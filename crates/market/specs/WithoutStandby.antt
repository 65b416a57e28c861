-- When a settlement is sound, in the words of docs/FORMAT.md, which has no standby: a free hour is worth 0. For a ticket in which
-- nobody has standby, as in every ticket of today's files, it comes to the same as `Sound` (proofs/WithoutStandby.antt).
-- Assumes nothing.
use Rattle.std.specs.Prelude.{ℕ, ◌+◌, ◌<◌, ◌≡◌}
use Rattle.market.specs.declared.Deal.{Deal}
use Rattle.market.specs.declared.Deal.TheVariants.{Tariff, Free}
use Rattle.market.specs.Market.{Ticket, Settlement, Cheapest, Feasible, GrowerHasFreeHour, PilotHasFreeHour, Unfilled}
use Rattle.market.specs.Market.{earned_by_grower, earned_by_pilot}

-- nobody asks anything for a free hour
pub record NoStandby (t : Ticket) : Type 0 where
  pub grower : (i : ℕ) → t.grower_standby i ≡ 0
  pub pilot : (j : ℕ) → t.pilot_standby j ≡ 0

module _ (t : Ticket) (x : Settlement) where
  -- A spare of a party for a deal, by what it is worth to him: a free hour, worth 0, or an hour he has in any other deal. The other deal
  -- of the same pair counts as another deal, the deal itself does not.
  pub data SpareOfGrower (d : Deal) (i j : ℕ) : ℕ → Type 0 where
    free_hour : GrowerHasFreeHour t x i → SpareOfGrower d i j 0
    other_deal : (e : Deal) (l : ℕ) → l < t.pilots → (e ≡ d → l ≡ j → ⊥) → 0 < x.hours e i l →
        SpareOfGrower d i j (earned_by_grower t x e i l)

  pub data SpareOfPilot (d : Deal) (i j : ℕ) : ℕ → Type 0 where
    free_hour : PilotHasFreeHour t x j → SpareOfPilot d i j 0
    other_deal : (e : Deal) (k : ℕ) → k < t.growers → (e ≡ d → k ≡ i → ⊥) → 0 < x.hours e k j →
        SpareOfPilot d i j (earned_by_pilot t x e k j)

  -- Idle: a deal below its cap while both parties have a free hour (5.7), whatever the deal is worth.
  abbrev pub Idle : Deal → ℕ → ℕ → Type 0
  Idle d i j = Unfilled t x d i j × GrowerHasFreeHour t x i × PilotHasFreeHour t x j

  -- A tariff deal below its cap blocks if the grower has a spare worth less than his gain and the pilot one worth less than his pay
  -- (5.8). A free deal below its cap blocks if both have a spare and the joint gain is greater than the sum of their cheapest (5.9).
  abbrev pub Blocks : Deal → ℕ → ℕ → Type 0
  Blocks Tariff i j = Unfilled t x Tariff i j
      × ((w : ℕ) × SpareOfGrower Tariff i j w × (w < t.tariff_gain i j))
      × ((w : ℕ) × SpareOfPilot Tariff i j w × (w < t.tariff_pay i j))
  Blocks Free i j = Unfilled t x Free i j
      × ((wg : ℕ) × (wp : ℕ) × Cheapest (SpareOfGrower Free i j) wg × Cheapest (SpareOfPilot Free i j) wp × (wg + wp < t.joint_gain i j))

  -- Sound: feasible, nothing idle, nothing blocks.
  pub record SoundWithoutStandby : Type 0 where
    pub feasible : Feasible t x
    pub nothing_idle : (d : Deal) (i j : ℕ) → i < t.growers → j < t.pilots → ¬ Idle d i j
    pub nothing_blocks : (d : Deal) (i j : ℕ) → i < t.growers → j < t.pilots → ¬ Blocks d i j
