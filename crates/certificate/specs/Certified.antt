-- Whether the least hours of all parties certify a settlement. It is enough for soundness, and quick; it is not needed for soundness, since
-- a deal's own hours count among those of its parties. Everywhere g and i are growers, p and j pilots.
-- Assumes nothing.
use Rattle.std.specs.Prelude.{ℕ, zero, suc, ◌+◌, ◌-◌, min, Bool, not, ◌&&◌, ◌||◌, leb, ltb, eqb}
use Rattle.grid.specs.Every.{every}
use Rattle.grid.specs.Pick.{pick}
use Rattle.grid.specs.Sum.{sum}
use Rattle.market.specs.declared.Deal.TheVariants.{Tariff, Free}
use Rattle.market.specs.Market.{Ticket, Settlement, used_by_grower, used_by_pilot}
use Rattle.certificate.specs.declared.Party.{Party}

-- Parties.

-- what an hour of a deal earns, if the deal has hours; else above every amount of 16 bits
abbrev pub worth_of : ℕ → ℕ → ℕ
worth_of hours earned = pick (ltb 0 hours) earned 65535

-- the least that an hour with one of k partners earns, by the tariff or in the free deal
unfoldable pub least_earned : (tariff earned free share : ℕ → ℕ) → ℕ → ℕ
least_earned tariff earned free share zero = 65535
least_earned tariff earned free share (suc k) =
    min (least_earned tariff earned free share k) (min (worth_of (tariff k) (earned k)) (worth_of (free k) (share k)))

-- what each hour of a party is worth to him at least: standby where he has a free hour, else the least that an hour of a deal earns
abbrev pub least_of : (unused standby earned : ℕ) → ℕ
least_of unused standby earned = pick (ltb 0 unused) standby earned

-- a party by his own hours, his hours with each of k partners, and what they earn him
abbrev pub party_of : (own standby : ℕ) (tariff earned free share : ℕ → ℕ) → ℕ → Party
party_of own standby tariff earned free share k =
    let unused = own - sum (λ l. tariff l + free l) k in
    record { free = unused; standby = standby; least = least_of unused standby (least_earned tariff earned free share k) }

-- Pairs, from the numbers of their parties and deals.

-- the caps and the pay are kept
abbrev pub feasible : (tariff_cap free_cap joint_gain tariff_hours free_deal_hours pay : ℕ) → Bool
feasible tariff_cap free_cap joint_gain tariff_hours free_deal_hours pay =
    (leb tariff_hours tariff_cap && leb free_deal_hours free_cap) && (leb pay joint_gain && (ltb 0 free_deal_hours || eqb pay 0))

-- hours that are flown earn both at least standby
abbrev pub worthwhile : (g p : Party) (tariff_gain tariff_pay joint_gain tariff_hours free_deal_hours pay : ℕ) → Bool
worthwhile g p tariff_gain tariff_pay joint_gain tariff_hours free_deal_hours pay =
    (eqb tariff_hours 0 || (leb g.standby tariff_gain && leb p.standby tariff_pay)) &&
    (eqb free_deal_hours 0 || (leb g.standby (joint_gain - pay) && leb p.standby pay))

-- one of the two has no free hour
abbrev pub one_full : Party → Party → Bool
one_full g p = eqb g.free 0 || eqb p.free 0

-- the tariff deal is at its cap; or it is not idle, and brings one of the two no more than his least hour
abbrev pub tariff_kept : (g p : Party) (cap gain pay hours : ℕ) → Bool
tariff_kept g p cap gain pay hours =
    leb cap hours ||
    ((one_full g p || (ltb gain g.standby || ltb pay p.standby)) && (leb gain g.least || leb pay p.least))

-- the free deal is at its cap; or it is not idle, and brings both together no more than their least hours
abbrev pub free_kept : (g p : Party) (cap joint_gain hours : ℕ) → Bool
free_kept g p cap joint_gain hours =
    leb cap hours || ((one_full g p || not (leb (g.standby + p.standby) joint_gain)) && leb joint_gain (g.least + p.least))

abbrev pub pair_kept : (g p : Party) (tariff_cap tariff_gain tariff_pay free_cap joint_gain tariff_hours free_deal_hours pay : ℕ) → Bool
pair_kept g p tariff_cap tariff_gain tariff_pay free_cap joint_gain tariff_hours free_deal_hours pay =
    feasible tariff_cap free_cap joint_gain tariff_hours free_deal_hours pay &&
    worthwhile g p tariff_gain tariff_pay joint_gain tariff_hours free_deal_hours pay &&
    tariff_kept g p tariff_cap tariff_gain tariff_pay tariff_hours && free_kept g p free_cap joint_gain free_deal_hours

-- Tickets and settlements.

module _ (t : Ticket) (x : Settlement) where
  abbrev pub grower : ℕ → Party
  grower i =
      party_of (t.grower_hours i) (t.grower_standby i) (x.hours Tariff i) (t.tariff_gain i) (x.hours Free i)
      (λ j. t.joint_gain i j - x.pay i j) t.pilots

  abbrev pub pilot : ℕ → Party
  pilot j =
      party_of (t.pilot_hours j) (t.pilot_standby j) (λ i. x.hours Tariff i j) (λ i. t.tariff_pay i j) (λ i. x.hours Free i j)
      (λ i. x.pay i j) t.growers

  -- nobody is over his hours
  abbrev pub grower_fits : ℕ → Bool
  grower_fits i = leb (used_by_grower t x.hours i) (t.grower_hours i)

  abbrev pub pilot_fits : ℕ → Bool
  pilot_fits j = leb (used_by_pilot t x.hours j) (t.pilot_hours j)

  abbrev pub kept : ℕ → ℕ → Bool
  kept i j =
      pair_kept (grower i) (pilot j) (t.tariff_cap i j) (t.tariff_gain i j) (t.tariff_pay i j) (t.free_cap i j) (t.joint_gain i j)
      (x.hours Tariff i j) (x.hours Free i j) (x.pay i j)

  -- everybody's hours fit, and every pair is kept
  abbrev pub certified : Bool
  certified = every grower_fits t.growers && every pilot_fits t.pilots && every (λ i. every (kept i) t.pilots) t.growers
