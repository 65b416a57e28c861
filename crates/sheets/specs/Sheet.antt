-- The sheet of a settled ticket as bytes. That of a refused one is `refused_text` (`ascii`).
-- Assumes nothing.
use Rattle.std.specs.Prelude.{ℕ, zero, suc, ◌-◌, ◌*◌, ◌/◌, ◌%◌, List, [], ◌∷◌, ◌++◌, cond, ◌&&◌, eqb}
use Rattle.market.specs.declared.Deal.TheVariants.{Tariff, Free}
use Rattle.market.specs.Market.{Ticket, Settlement}
use Rattle.tables.specs.View.{growers_of, pilots_of, ticket_of, settlement_of}
use Rattle.marker.specs.Verdict.{judged}
use Rattle.verdicts.specs.Values.{verdict_count}
use Rattle.ascii.specs.Lines.{line}

-- `SHEET ` and `SOUND `
abbrev pub sheet_word : List ℕ
sheet_word = 83 ∷ 72 ∷ 69 ∷ 69 ∷ 84 ∷ 32 ∷ []

abbrev pub sound_word : List ℕ
sound_word = 83 ∷ 79 ∷ 85 ∷ 78 ∷ 68 ∷ 32 ∷ []

-- what the grower has of a free-deal hour: the joint gain without the pilot's pay, 0 without any
abbrev pub grower_share : ℕ → ℕ → ℕ → ℕ
grower_share hours gain pay = cond (eqb hours 0) 0 (gain - pay)

-- the numbers of the pair i j: grower, pilot, tariff hours, gain and pay of the tariff, free-deal hours, the grower's share and the pilot's
abbrev pub pair_numbers : ℕ → ℕ → ℕ → ℕ → ℕ → ℕ → ℕ → ℕ → List ℕ
pair_numbers i j tariff_hours tariff_gain tariff_pay free_deal_hours joint_gain pay =
    i ∷ j ∷ tariff_hours ∷ tariff_gain ∷ tariff_pay ∷ free_deal_hours ∷ grower_share free_deal_hours joint_gain pay ∷ pay ∷ []

-- a line for a pair with any hours
abbrev pub line_if_hours : ℕ → ℕ → List ℕ → List ℕ
line_if_hours tariff_hours free_deal_hours numbers = cond (eqb tariff_hours 0 && eqb free_deal_hours 0) [] (line numbers)

-- the pair i j of a ticket that is settled
abbrev pub pair_line : Ticket → Settlement → ℕ → ℕ → List ℕ
pair_line t x i j =
    line_if_hours (x.hours Tariff i j) (x.hours Free i j)
    (pair_numbers i j (x.hours Tariff i j) (t.tariff_gain i j) (t.tariff_pay i j) (x.hours Free i j) (t.joint_gain i j) (x.pay i j))

-- the lines of the first k pairs, where the pair i j is at place i * m + j
unfoldable pub pair_lines : (ℕ → ℕ → List ℕ) → ℕ → ℕ → List ℕ
pair_lines line_of m zero = []
pair_lines line_of m (suc k) = pair_lines line_of m k ++ line_of (k / m) (k % m)

-- The sheet of a ticket's numbers and of a settlement's.

-- `SHEET `, growers and pilots
abbrev pub head_of : List ℕ → List ℕ
head_of ticket = sheet_word ++ line (growers_of ticket ∷ pilots_of ticket ∷ [])

abbrev pub lines_of : List ℕ → List ℕ → List ℕ
lines_of ticket settlement =
    pair_lines (pair_line (ticket_of ticket) (settlement_of settlement)) (pilots_of ticket) (growers_of ticket * pilots_of ticket)

-- `SOUND ` and the marker's count
abbrev pub last_of : List ℕ → List ℕ → List ℕ
last_of ticket settlement = sound_word ++ line (verdict_count (judged (ticket_of ticket) (settlement_of settlement)) ∷ [])

abbrev pub sheet_text : List ℕ → List ℕ → List ℕ
sheet_text ticket settlement = head_of ticket ++ lines_of ticket settlement ++ last_of ticket settlement
