-- The paper's traps for the marker: marking by rules of which a trap changes one. Only proofs/WrongMarkers.antt uses this.
-- Everywhere i is a grower, j a pilot, d and e deals.
-- Assumes nothing.
use Rattle.std.specs.Prelude.{Ok, Err}
use Rattle.std.specs.Prelude.{None, Option, Some}
use Rattle.std.specs.Prelude.{ℕ, ◌+◌, ◌*◌, Bool, false, cond, ◌&&◌, ◌||◌, List, ltb, leb, eqb}
use Rattle.grid.specs.First.{by_place}
use Rattle.reader.specs.Walk.{Outcome}
use Rattle.reader.specs.Answer.{unpacked, settlement_read}
use Rattle.market.specs.declared.Deal.{Deal}
use Rattle.market.specs.declared.Deal.TheVariants.{Tariff, Free}
use Rattle.market.specs.Market.{Ticket, Settlement, cap, earned_by_grower, earned_by_pilot}
use Rattle.tables.specs.View.{growers_of, pilots_of, ticket_of, settlement_of}
use Rattle.market.specs.Totals.{promised_worth}
use Rattle.verdicts.specs.declared.Verdict.{Verdict}
use Rattle.verdicts.specs.declared.Verdict.TheVariants.{Refused, Sound, TariffOverCap, FreeOverCap, WrongPay}
use Rattle.verdicts.specs.declared.Verdict.TheVariants.{GrowerOverHours, PilotOverHours}
use Rattle.verdicts.specs.Tests.{count_in, cheapest_of, besides, below, outweighs}
use Rattle.marker.specs.Verdict.{by_pair, deal_at, walk, pairs, wrong_pay, grower_over, pilot_over, free_of_grower, free_of_pilot}
use Rattle.marker.specs.Verdict.{idle, deal_verdict_at}

-- what the traps change
pub record Rules : Type 0 where
  -- a cap and hours: these are too many
  pub too_many : ℕ → ℕ → Bool
  -- a deal, a partner, and a party's hours by deal and partner: those of them that are spares for that deal with that partner
  pub spares : Deal → ℕ → (Deal → ℕ → ℕ) → Deal → ℕ → ℕ
  -- a deal, two spares, gain, pay and joint gain: an hour more of the deal outweighs the spares
  pub outweigh : Deal → Option ℕ → Option ℕ → ℕ → ℕ → ℕ → Bool

-- the rules of marking
abbrev pub right : Rules
right = record { too_many = ltb; spares = besides; outweigh = outweighs }

-- "Counting the deal's own hours as spares"
abbrev pub own_hours_are_spares : Rules
own_hours_are_spares = record { too_many = ltb; spares = λ d y hours. hours; outweigh = outweighs }

-- "Forgetting the pair's other deal"
abbrev pub other_deal_forgotten : Rules
other_deal_forgotten = record { too_many = ltb; spares = λ d y hours e l. cond (eqb l y) 0 (hours e l); outweigh = outweighs }

-- "'At least' for 'greater'": the joint gain is at least that of two spares together
abbrev both_at_most : Option ℕ → Option ℕ → ℕ → Bool
both_at_most None q v = false
both_at_most (Some w) None v = false
both_at_most (Some w) (Some u) v = leb (w + u) v

abbrev at_least : Deal → Option ℕ → Option ℕ → ℕ → ℕ → ℕ → Bool
at_least Tariff of_grower of_pilot gain pay joint_gain = below of_grower gain && below of_pilot pay
at_least Free of_grower of_pilot gain pay joint_gain = both_at_most of_grower of_pilot joint_gain

abbrev pub at_least_for_greater : Rules
at_least_for_greater = record { too_many = ltb; spares = besides; outweigh = at_least }

-- "Taking cap 0 as unlimited"
abbrev pub cap_zero_is_unlimited : Rules
cap_zero_is_unlimited = record { too_many = λ most hours. ltb 0 most && ltb most hours; spares = besides; outweigh = outweighs }

-- The verdict by rules, otherwise as in Verdict.antt, and from bytes as in Marked.antt.
module _ (r : Rules) where
  module _ (t : Ticket) (x : Settlement) where
    abbrev over_cap : Deal → ℕ → ℕ → Bool
    over_cap d i j = r.too_many (cap t d i j) (x.hours d i j)

    abbrev wrong_pair : ℕ → ℕ → Bool
    wrong_pair i j = over_cap Tariff i j || (over_cap Free i j || wrong_pay t x i j)

    abbrev pair_verdict : ℕ → ℕ → Verdict
    pair_verdict i j = cond (over_cap Tariff i j) (TariffOverCap i j) (cond (over_cap Free i j) (FreeOverCap i j) (WrongPay i j))

    abbrev grower_spare : Deal → ℕ → ℕ → Option ℕ
    grower_spare d i j =
        cheapest_of (count_in (free_of_grower t x i) (t.grower_standby i) None) (r.spares d j (λ e l. x.hours e i l))
        (λ e l. earned_by_grower t x e i l) t.pilots

    abbrev pilot_spare : Deal → ℕ → ℕ → Option ℕ
    pilot_spare d i j =
        cheapest_of (count_in (free_of_pilot t x j) (t.pilot_standby j) None) (r.spares d i (λ e k. x.hours e k j))
        (λ e k. earned_by_pilot t x e k j) t.growers

    abbrev wrong_deal : Deal → ℕ → ℕ → Bool
    wrong_deal d i j = idle t x d i j || (ltb (x.hours d i j) (cap t d i j)
        && r.outweigh d (grower_spare d i j) (pilot_spare d i j) (t.tariff_gain i j) (t.tariff_pay i j) (t.joint_gain i j))

    abbrev pub judged_by : Verdict
    judged_by =
        walk (by_pair wrong_pair t.pilots) (pairs t) (by_pair pair_verdict t.pilots)
        (walk (grower_over t x) t.growers GrowerOverHours
        (walk (pilot_over t x) t.pilots PilotOverHours
        (walk (by_place (λ i j d. wrong_deal (deal_at d) i j) t.pilots) (2 * pairs t) (deal_verdict_at t x)
        (Sound (2 * pairs t) (promised_worth t x.hours)))))

  abbrev pub settlement_marked_by : List ℕ → Outcome → Verdict
  settlement_marked_by xs (Err w) = Refused w
  settlement_marked_by xs (Ok ys) = judged_by (ticket_of xs) (settlement_of ys)

  abbrev pub ticket_marked_by : Outcome → List ℕ → Verdict
  ticket_marked_by (Err w) settlement = Refused w
  ticket_marked_by (Ok xs) settlement = settlement_marked_by xs (settlement_read (growers_of xs) (pilots_of xs) settlement)

  abbrev pub marked_by : List ℕ → List ℕ → Verdict
  marked_by ticket settlement = ticket_marked_by (unpacked ticket) settlement
