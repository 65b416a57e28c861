-- The steps of the method, as relations between the state before and after, and what is left to do.
-- Assumes nothing.
use Rattle.std.specs.Prelude.{ℕ, suc, ◌+◌, ◌*◌, ◌-◌, ◌≤◌, ◌<◌, Bool, true, false, ◌≡◌, ltb}
use Rattle.grid.specs.Pick.{pick}
use Rattle.grid.specs.Sum.{sum}
use Rattle.market.specs.declared.Deal.{Deal}
use Rattle.market.specs.declared.Deal.TheVariants.{Tariff, Free}
use Rattle.market.specs.Market.{Ticket, cap, used_by_grower, used_by_pilot}
use Rattle.market.specs.Method.{Slot, by_tariff, old_free, new_free, Held, deal_of, hours_of, offer, worth, Fair}

-- g is f at the place b k l, unless that is the place a i j.
pub data SameExcept {A : Type 0} (f g : A → ℕ → ℕ → ℕ) (a : A) (i j : ℕ) : A → ℕ → ℕ → Type 0 where
  here : SameExcept f g a i j a i j
  same : {b : A} {k l : ℕ} → g b k l ≡ f b k l → SameExcept f g a i j b k l

-- g is f with x more at the place a i j. To take hours is to add them the other way round.
pub record Added {A : Type 0} (f g : A → ℕ → ℕ → ℕ) (a : A) (i j x : ℕ) : Type 0 where
  pub there : g a i j ≡ f a i j + x
  pub rest : (b : A) (k l : ℕ) → SameExcept f g a i j b k l

module _ (t : Ticket) (price : ℕ → ℕ) where
  -- x more hours for grower i and pilot j: they are fair, the deal and the grower have room for them, and no deal with
  -- room offers the grower more
  pub record BestDeal (held : Held) (q : Slot) (i j x : ℕ) : Type 0 where
    pub fair : Fair t price q i j
    pub room : hours_of held (deal_of q) i j + x ≤ cap t (deal_of q) i j
    pub free : used_by_grower t (hours_of held) i + x ≤ t.grower_hours i
    pub best : (d : Deal) (l : ℕ) → l < t.pilots → hours_of held d i l < cap t d i l →
        offer t price d i l ≤ offer t price (deal_of q) i j

  -- A late hour pays the pilot less than his price.
  abbrev pub Late : Slot → ℕ → ℕ → Type 0
  Late by_tariff i j = 18 * t.tariff_pay i j < price j
  Late old_free i j = Unit {0}
  Late new_free i j = ⊥

  abbrev pub NoLateHour : Held → ℕ → Type 0
  NoLateHour held j = (q : Slot) (i : ℕ) → i < t.growers → Late q i j → held q i j ≡ 0

  -- the late hours of a pair, and of a pilot
  abbrev pub late_of_pair : Held → ℕ → ℕ → ℕ
  late_of_pair held i j = pick (ltb (18 * t.tariff_pay i j) (price j)) (held by_tariff i j) 0 + held old_free i j

  abbrev pub late_of_pilot : Held → ℕ → ℕ
  late_of_pilot held j = sum (λ i. late_of_pair held i j) t.growers

  -- what pilot j has yet to do: to raise the price as far as top, to give up late hours, to fill free hours
  abbrev pub to_do : Held → ℕ → ℕ → ℕ
  to_do held top j = (top - price j) * suc (t.pilot_hours j) + late_of_pilot held j + (t.pilot_hours j - used_by_pilot t (hours_of held) j)

  abbrev pub measure : Held → ℕ → ℕ
  measure held top = sum (to_do held top) t.pilots

-- The price of pilot j rises by one, and the pilot's new hours become old.
module _ (t : Ticket) (price price' : ℕ → ℕ) (held held' : Held) (j : ℕ) where
  pub record RaisedAt : Type 0 where
    pub risen : price' j ≡ suc (price j)
    pub kept : (i : ℕ) → i < t.growers → held' by_tariff i j ≡ held by_tariff i j
    pub aged : (i : ℕ) → i < t.growers → held' old_free i j ≡ held old_free i j + held new_free i j
    pub none : (i : ℕ) → i < t.growers → held' new_free i j ≡ 0

  -- all is as before at pilot l, unless that is pilot j
  pub data SameBeside : ℕ → Type 0 where
    here : SameBeside j
    same : {l : ℕ} → price' l ≡ price l → ((q : Slot) (i : ℕ) → i < t.growers → held' q i l ≡ held q i l) → SameBeside l

  pub record Raised : Type 0 where
    pub there : RaisedAt
    pub rest : (l : ℕ) → l < t.pilots → SameBeside l

-- The jump: the prices of all pilots in a set rise by x at once, and every hour stays as it is held.
module _ (t : Ticket) (chosen : ℕ → Bool) (x : ℕ) where
  pub record Jumped (price price' : ℕ → ℕ) : Type 0 where
    pub risen : (j : ℕ) → j < t.pilots → chosen j ≡ true → price' j ≡ price j + x
    pub kept : (j : ℕ) → j < t.pilots → chosen j ≡ false → price' j ≡ price j

  -- A chosen pilot has no free hour, and no tariff hour that pays too little at the new price.
  pub record JumpPilot (price : ℕ → ℕ) (held : Held) (top j : ℕ) : Type 0 where
    pub full : used_by_pilot t (hours_of held) j ≡ t.pilot_hours j
    pub below : price j + x ≤ top
    pub tariff : (i : ℕ) → i < t.growers → 0 < held by_tariff i j → price j + x ≤ 18 * t.tariff_pay i j + 1

  -- No free-deal hour that grower i holds with a chosen pilot is worth less than low (any large number, if there is none).
  -- With x less it is still above standby, and no deal with room overtakes it, but for the free deals with chosen pilots,
  -- whose offers fall as well.
  pub record JumpGrower (price : ℕ → ℕ) (held : Held) (i low : ℕ) : Type 0 where
    pub old : (j : ℕ) → j < t.pilots → chosen j ≡ true → 0 < held old_free i j → low ≤ worth t price old_free i j
    pub new : (j : ℕ) → j < t.pilots → chosen j ≡ true → 0 < held new_free i j → low ≤ worth t price new_free i j
    pub standby : 18 * t.grower_standby i + x < low
    pub tariff : (l : ℕ) → l < t.pilots → held by_tariff i l < t.tariff_cap i l → offer t price Tariff i l + x ≤ low
    pub free : (l : ℕ) → l < t.pilots → chosen l ≡ false → hours_of held Free i l < t.free_cap i l → offer t price Free i l + x ≤ low

  pub record Jump (price price' : ℕ → ℕ) (held : Held) (low : ℕ → ℕ) (top : ℕ) : Type 0 where
    pub prices : Jumped price price'
    pub pilot : (j : ℕ) → j < t.pilots → chosen j ≡ true → JumpPilot price held top j
    pub grower : (i : ℕ) → i < t.growers → JumpGrower price held i (low i)
