-- Parties, and what a walk found, as the code holds them.
-- Assumes nothing.
use Rattle.std.specs.Prelude.{Option}
use Rattle.std.specs.Prelude.{ℕ, ◌+◌, ◌*◌, ◌-◌, ◌<◌, ◌≡◌, Bool, List, [], ltb, get_or}
use Rattle.grid.specs.Grid.{Grid}
use Rattle.grid.specs.First.{first}
use Rattle.market.specs.declared.Deal.{Deal}
use Rattle.market.specs.Market.{Ticket, Settlement, sum_deals, earned_by_grower, earned_by_pilot}
use Rattle.market.specs.Tables.{ticket_in, settlement_in}
use Rattle.verdicts.specs.declared.Verdict.{Verdict}
use Rattle.verdicts.specs.Tests.{cheapest_spare, lines}
use Rattle.verdicts.specs.Faults.{found_if, deal_fault}
use Rattle.marker.specs.declared.Party.{Party}
use Rattle.marker.specs.Verdict.{deal_number}

-- Walks.

-- the verdict on the first of k places at which a test holds
abbrev pub first_found : (ℕ → Bool) → ℕ → (ℕ → Verdict) → Option Verdict
first_found test k verdict = found_if (ltb (first test k) k) (verdict (first test k))

-- Parties. A row has a number for each partner.

-- the hours over all deals with k partners
abbrev pub used_in : List ℕ → List ℕ → ℕ → ℕ
used_in tariff free k = sum_deals (lines tariff free) k

-- the party with so many own hours and four rows, of k partners
abbrev pub party_of : ℕ → List ℕ → List ℕ → List ℕ → List ℕ → ℕ → Party
party_of own tariff free earned share k = record {
  used = used_in tariff free k;
  own = own;
  unused = own - used_in tariff free k;
  tariff = tariff;
  free = free;
  earned = earned;
  share = share;
}

-- the same, of the rows that stand at a place of four squares
abbrev pub party_at : List ℕ → Grid → Grid → Grid → Grid → ℕ → ℕ → Party
party_at own tariff free earned share k p =
    party_of (get_or own p 0) (get_or tariff p []) (get_or free p []) (get_or earned p []) (get_or share p []) k

-- nobody, where a list of parties has ended
abbrev pub nobody : Party
nobody = record { used = 0; own = 0; unused = 0; tariff = []; free = []; earned = []; share = [] }

-- a party is over his hours
abbrev pub is_over : Party → Bool
is_over p = ltb p.own p.used

-- a party with so many own hours, and with such hours and earnings by deal and partner, one of k
pub record IsParty (p : Party) (k own : ℕ) (had worth : Deal → ℕ → ℕ) : Type 0 where
  pub owns : p.own ≡ own
  pub used : p.used ≡ sum_deals had k
  pub unused : p.unused ≡ own - sum_deals had k
  pub hours : (e : Deal) (l : ℕ) → l < k → lines p.tariff p.free e l ≡ had e l
  pub earned : (e : Deal) (l : ℕ) → l < k → lines p.earned p.share e l ≡ worth e l

-- it is grower i, or pilot j
abbrev pub IsGrower : Ticket → Settlement → ℕ → Party → Type 0
IsGrower t x i p = IsParty p t.pilots (t.grower_hours i) (λ e l. x.hours e i l) (λ e l. earned_by_grower t x e i l)

abbrev pub IsPilot : Ticket → Settlement → ℕ → Party → Type 0
IsPilot t x j p = IsParty p t.growers (t.pilot_hours j) (λ e k. x.hours e k j) (λ e k. earned_by_pilot t x e k j)

-- a party's cheapest spare for the deal d with partner y of k; a free hour is worth nothing
abbrev pub spare_in : Party → ℕ → Deal → ℕ → Option ℕ
spare_in p k d y = cheapest_spare p.unused 0 (lines p.tariff p.free) (lines p.earned p.share) k d y

-- what is found of the deal, whose parties are grower i, one of n, and pilot j, one of m
abbrev pub deal_found : Deal → Party → Party → ℕ → ℕ → ℕ → ℕ → ℕ → ℕ → Option Verdict
deal_found d g p n m i j cap joint_gain =
    deal_fault i j d (2 * (i * m + j) + deal_number d + 1) (lines g.tariff g.free d j) cap g.unused p.unused
    (spare_in g m d j) (spare_in p n d i) (get_or g.earned j 0) (get_or p.earned i 0) joint_gain

-- The rows and squares that n growers and m pilots were made of, beside those that a walk over deals has itself.
pub record Origin (n m : ℕ) (growers pilots : List Party) (tariff_cap free_cap joint_gain : Grid) : Type 0 where
  pub grower_hours : List ℕ
  pub pilot_hours : List ℕ
  pub tariff_gain : Grid
  pub tariff_pay : Grid
  pub tariff_hours : Grid
  pub free_deal_hours : Grid
  pub pay : Grid
  pub grower : (i : ℕ) → i < n →
      IsGrower (ticket_in n m grower_hours pilot_hours tariff_cap tariff_gain tariff_pay free_cap joint_gain)
      (settlement_in tariff_hours free_deal_hours pay) i (get_or growers i nobody)
  pub pilot : (j : ℕ) → j < m →
      IsPilot (ticket_in n m grower_hours pilot_hours tariff_cap tariff_gain tariff_pay free_cap joint_gain)
      (settlement_in tariff_hours free_deal_hours pay) j (get_or pilots j nobody)

-- the ticket and the settlement of all of them
module _ {n m : ℕ} {growers pilots : List Party} {tariff_cap free_cap joint_gain : Grid}
    (o : Origin n m growers pilots tariff_cap free_cap joint_gain) where
  abbrev pub ticket_from : Ticket
  ticket_from = ticket_in n m o.grower_hours o.pilot_hours tariff_cap o.tariff_gain o.tariff_pay free_cap joint_gain

  abbrev pub settlement_from : Settlement
  settlement_from = settlement_in o.tariff_hours o.free_deal_hours o.pay
