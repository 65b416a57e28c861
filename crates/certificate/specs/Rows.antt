-- The same of rows and squares, as the code holds them.
-- Assumes nothing.
use Rattle.std.specs.Prelude.{ℕ, ◌+◌, ◌<◌, ◌≡◌, Bool, List, [], leb, get_or}
use Rattle.grid.specs.Sum.{sum}
use Rattle.grid.specs.Grid.{Grid, at}
use Rattle.certificate.specs.declared.Party.{Party}
use Rattle.certificate.specs.declared.Side.{Side}
use Rattle.grid.specs.Every.{every}
use Rattle.certificate.specs.Certified.{least_earned, party_of, pair_kept}

-- a row of numbers
abbrev pub line : List ℕ → ℕ → ℕ
line l k = get_or l k 0

-- the hours over all deals with k partners, and the least that one of them earns
abbrev pub used_in : (tariff free : List ℕ) → ℕ → ℕ
used_in tariff free = sum (λ l. line tariff l + line free l)

abbrev pub least_in : (tariff earned free share : List ℕ) → ℕ → ℕ
least_in tariff earned free share = least_earned (line tariff) (line earned) (line free) (line share)

-- one of sixteen parties, in rows, and of a side
abbrev pub party_in : (free standby least : List ℕ) → ℕ → Party
party_in free standby least p = record { free = line free p; standby = line standby p; least = line least p }

abbrev pub party_on : Side → ℕ → Party
party_on s = party_in s.free s.standby s.least

-- the party of the rows at a place of four squares, with k partners
abbrev pub party_at : (k : ℕ) (own standby : List ℕ) (tariff earned free share : Grid) → ℕ → Party
party_at k own standby tariff earned free share p =
    party_of (line own p) (line standby p) (at tariff p) (at earned p) (at free p) (at share p) k

-- the first parties of one side
pub record IsSide (count k : ℕ) (own standby : List ℕ) (tariff earned free share : Grid) (s : Side) : Type 0 where
  pub fits : s.fits ≡ every (λ p. leb (used_in (get_or tariff p []) (get_or free p []) k) (line own p)) count
  pub parties : (p : ℕ) → p < count → party_on s p ≡ party_at k own standby tariff earned free share p

-- the pairs of a grower and the first k pilots, in rows
abbrev pub row_kept : (g : Party)
    (free standby least tariff_cap tariff_gain tariff_pay free_cap joint_gain tariff_hours free_deal_hours pay : List ℕ) → ℕ → Bool
row_kept g free standby least tariff_cap tariff_gain tariff_pay free_cap joint_gain tariff_hours free_deal_hours pay =
    every (λ j. pair_kept g (party_in free standby least j) (line tariff_cap j) (line tariff_gain j) (line tariff_pay j)
    (line free_cap j) (line joint_gain j) (line tariff_hours j) (line free_deal_hours j) (line pay j))

-- the same of the first k growers, in squares
abbrev pub rows_kept : (gf gs gl pf ps pl : List ℕ) (m : ℕ)
    (tariff_cap tariff_gain tariff_pay free_cap joint_gain tariff_hours free_deal_hours pay : Grid) → ℕ → Bool
rows_kept gf gs gl pf ps pl m tariff_cap tariff_gain tariff_pay free_cap joint_gain tariff_hours free_deal_hours pay =
    every (λ i. row_kept (party_in gf gs gl i) pf ps pl (get_or tariff_cap i []) (get_or tariff_gain i []) (get_or tariff_pay i [])
    (get_or free_cap i []) (get_or joint_gain i []) (get_or tariff_hours i []) (get_or free_deal_hours i []) (get_or pay i []) m)

abbrev pub sides_kept : (growers pilots : Side) (m : ℕ)
    (tariff_cap tariff_gain tariff_pay free_cap joint_gain tariff_hours free_deal_hours pay : Grid) → ℕ → Bool
sides_kept g p = rows_kept g.free g.standby g.least p.free p.standby p.least
