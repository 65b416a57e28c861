-- The market: growers and pilots, what each pair may agree on, and when a settlement between them is sound. The second half
-- follows the section 'When a settlement is sound' of docs/FORMAT.md. A free hour is worth its owner's
-- standby, which is 0 in today's tickets. Everywhere i and k are growers, j and l pilots, d and e deals.
-- Assumes nothing.
use Rattle.std.specs.Prelude.{ℕ, ◌+◌, ◌*◌, ◌-◌, ◌≤◌, ◌<◌, ◌≡◌}
use Rattle.grid.specs.Sum.{sum}
use Rattle.market.specs.declared.Deal.{Deal}
use Rattle.market.specs.declared.Deal.TheVariants.{Tariff, Free}

pub record Ticket : Type 0 where
  -- how many there are
  pub growers : ℕ
  pub pilots : ℕ
  -- everybody's own hours
  pub grower_hours : ℕ → ℕ
  pub pilot_hours : ℕ → ℕ
  -- the tariff deal of a grower and a pilot: the most hours, and per hour the grower's gain and the pilot's pay
  pub tariff_cap : ℕ → ℕ → ℕ
  pub tariff_gain : ℕ → ℕ → ℕ
  pub tariff_pay : ℕ → ℕ → ℕ
  -- their free deal: the most hours, and the joint gain per hour
  pub free_cap : ℕ → ℕ → ℕ
  pub joint_gain : ℕ → ℕ → ℕ
  -- what a free hour is worth to its owner
  pub grower_standby : ℕ → ℕ
  pub pilot_standby : ℕ → ℕ

-- the hours of each deal of each grower and pilot
abbrev pub DealHours : Type 0
DealHours = Deal → ℕ → ℕ → ℕ

-- The hours of each deal, and the pilot's pay per hour of a free deal. The grower has the rest of the joint gain.
pub record Settlement : Type 0 where
  pub hours : DealHours
  pub pay : ℕ → ℕ → ℕ

-- the sum over both deals with each of k partners
abbrev pub sum_deals : (Deal → ℕ → ℕ) → ℕ → ℕ
sum_deals f k = sum (λ x. f Tariff x + f Free x) k

-- the least of those numbers that have a property
abbrev pub Cheapest : (ℕ → Type 0) → ℕ → Type 0
Cheapest P w = P w × ((v : ℕ) → P v → w ≤ v)

module _ (t : Ticket) where
  abbrev pub cap : DealHours
  cap Tariff i j = t.tariff_cap i j
  cap Free i j = t.free_cap i j

  -- somebody's hours over all his deals
  abbrev pub used_by_grower : DealHours → ℕ → ℕ
  used_by_grower h i = sum_deals (λ d j. h d i j) t.pilots

  abbrev pub used_by_pilot : DealHours → ℕ → ℕ
  used_by_pilot h j = sum_deals (λ d i. h d i j) t.growers

  -- No deal has more hours than its cap, and nobody's hours over all his deals exceed his own.
  pub record Fits (h : DealHours) : Type 0 where
    pub deal : (d : Deal) (i j : ℕ) → i < t.growers → j < t.pilots → h d i j ≤ cap d i j
    pub grower : (i : ℕ) → i < t.growers → used_by_grower h i ≤ t.grower_hours i
    pub pilot : (j : ℕ) → j < t.pilots → used_by_pilot h j ≤ t.pilot_hours j

  -- both would earn at least standby in the deal
  abbrev pub Welcome : Deal → ℕ → ℕ → Type 0
  Welcome Tariff i j = (t.grower_standby i ≤ t.tariff_gain i j) × (t.pilot_standby j ≤ t.tariff_pay i j)
  Welcome Free i j = t.grower_standby i + t.pilot_standby j ≤ t.joint_gain i j

  module _ (x : Settlement) where
    -- Feasible: it fits; the pay is at most the joint gain, and 0 where the pair has no free hours.
    pub record Feasible : Type 0 where
      pub fits : Fits x.hours
      pub pay_in_gain : (i j : ℕ) → i < t.growers → j < t.pilots → x.pay i j ≤ t.joint_gain i j
      pub pay_nothing : (i j : ℕ) → i < t.growers → j < t.pilots → x.hours Free i j ≡ 0 → x.pay i j ≡ 0

    -- A free hour is one of his own hours in no deal.
    abbrev pub GrowerHasFreeHour : ℕ → Type 0
    GrowerHasFreeHour i = used_by_grower x.hours i < t.grower_hours i

    abbrev pub PilotHasFreeHour : ℕ → Type 0
    PilotHasFreeHour j = used_by_pilot x.hours j < t.pilot_hours j

    -- what an hour of a deal earns
    abbrev pub earned_by_grower : Deal → ℕ → ℕ → ℕ
    earned_by_grower Tariff i j = t.tariff_gain i j
    earned_by_grower Free i j = t.joint_gain i j - x.pay i j

    abbrev pub earned_by_pilot : Deal → ℕ → ℕ → ℕ
    earned_by_pilot Tariff i j = t.tariff_pay i j
    earned_by_pilot Free i j = x.pay i j

    -- Nobody has a deal hour that earns less than his standby.
    pub record AtLeastStandby : Type 0 where
      pub grower : (d : Deal) (i j : ℕ) → i < t.growers → j < t.pilots → 0 < x.hours d i j →
          t.grower_standby i ≤ earned_by_grower d i j
      pub pilot : (d : Deal) (i j : ℕ) → i < t.growers → j < t.pilots → 0 < x.hours d i j →
          t.pilot_standby j ≤ earned_by_pilot d i j

    -- A spare of a party for a deal, by what it is worth to him: a free hour, or an hour he has in any other deal.
    pub data SpareOfGrower (d : Deal) (i j : ℕ) : ℕ → Type 0 where
      free_hour : GrowerHasFreeHour i → SpareOfGrower d i j (t.grower_standby i)
      other_deal : (e : Deal) (l : ℕ) → l < t.pilots → (e ≡ d → l ≡ j → ⊥) → 0 < x.hours e i l →
          SpareOfGrower d i j (earned_by_grower e i l)

    pub data SpareOfPilot (d : Deal) (i j : ℕ) : ℕ → Type 0 where
      free_hour : PilotHasFreeHour j → SpareOfPilot d i j (t.pilot_standby j)
      other_deal : (e : Deal) (k : ℕ) → k < t.growers → (e ≡ d → k ≡ i → ⊥) → 0 < x.hours e k j →
          SpareOfPilot d i j (earned_by_pilot e k j)

    -- An unfilled deal is one below its cap.
    abbrev pub Unfilled : Deal → ℕ → ℕ → Type 0
    Unfilled d i j = x.hours d i j < cap d i j

    -- Idle: unfilled while both parties have a free hour, if both would earn at least standby.
    pub record Idle (d : Deal) (i j : ℕ) : Type 0 where
      pub unfilled : Unfilled d i j
      pub grower : GrowerHasFreeHour i
      pub pilot : PilotHasFreeHour j
      pub welcome : Welcome d i j

    -- An unfilled tariff deal blocks if the grower has a spare worth less than his gain and the pilot one worth less than his
    -- pay (5.8). An unfilled free deal blocks if both have a spare and the joint gain is greater than the sum of their
    -- cheapest (5.9).
    abbrev pub Blocks : Deal → ℕ → ℕ → Type 0
    Blocks Tariff i j = (wg : ℕ) × (wp : ℕ) × Unfilled Tariff i j ×
        SpareOfGrower Tariff i j wg × SpareOfPilot Tariff i j wp × (wg < t.tariff_gain i j) × (wp < t.tariff_pay i j)
    Blocks Free i j = (wg : ℕ) × (wp : ℕ) × Unfilled Free i j ×
        Cheapest (SpareOfGrower Free i j) wg × Cheapest (SpareOfPilot Free i j) wp × (wg + wp < t.joint_gain i j)

    -- Both gain by one hour more, each giving up a spare, one worth wg to the grower and one worth wp to the pilot: by the
    -- tariff, or by a split of the joint gain that gives the grower y/k and the pilot the rest.
    abbrev pub BothGain : Deal → ℕ → ℕ → ℕ → ℕ → Type 0
    BothGain Tariff i j wg wp = (wg < t.tariff_gain i j) × (wp < t.tariff_pay i j)
    BothGain Free i j wg wp = (k : ℕ) × (y : ℕ) × (1 ≤ k) × (y ≤ k * t.joint_gain i j) ×
        (k * wg < y) × (k * wp < k * t.joint_gain i j - y)

    abbrev pub NothingBlocks : Type 0
    NothingBlocks = (d : Deal) (i j : ℕ) → i < t.growers → j < t.pilots → ¬ Blocks d i j

    -- The same in words of gain (proofs/Gains.antt).
    abbrev pub NobodyGains : Type 0
    NobodyGains = (d : Deal) (i j wg wp : ℕ) → i < t.growers → j < t.pilots → Unfilled d i j →
        SpareOfGrower d i j wg → SpareOfPilot d i j wp → ¬ BothGain d i j wg wp

    -- Sound: feasible, nothing idle, nothing blocks; and no hour below standby.
    pub record Sound : Type 0 where
      pub feasible : Feasible
      pub standby : AtLeastStandby
      pub nothing_idle : (d : Deal) (i j : ℕ) → i < t.growers → j < t.pilots → ¬ Idle d i j
      pub nothing_blocks : NothingBlocks
