-- The verdict depends only on the growers and pilots that there are.
-- Assumes nothing.
use Prim.Native.Nat.{ℕ, ◌+◌, ◌*◌, ◌-◌, ◌/◌, ◌%◌, ◌≤◌, ◌<◌}
use mathlib.Core.Path.{◌≡◌, refl, sym, ap, ap₂, ◌∙◌}
use mathlib.Core.Bool.{Bool, cond}
use mathlib.Core.Logic.{⊎_elim}
use mathlib.Core.List.{List}
use native.Mathlib.Omega.{arith}
use lib.Dec.{ltb}
use borrow.Author.Tests.{lt-ltb, le-ltb}
use Rattle.grid.specs.Grid.{Grid}
use Rattle.grid.specs.First.{first, by_place}
use Rattle.grid.proofs.Cases.{lt_or_le}
use Rattle.grid.proofs.Places.{inside, within}
use Rattle.market.specs.declared.Deal.{Deal}
use Rattle.market.specs.declared.Deal.TheVariants.{Tariff, Free}
use Rattle.market.specs.Market.{Ticket, Settlement}
use Rattle.market.specs.Tables.{ticket_in, settlement_in}
use Rattle.market.specs.Same.{SameTicket, SameSettlement}
use Rattle.market.proofs.PromisedWorth.{promised_same}
use Rattle.market.proofs.Same.{same-grower, same-pilot, same-cap, same_earned_grower, same_earned_pilot}
use Rattle.tables.specs.View.{growers_of, pilots_of, ticket_of, settlement_of, HoldTicket, HoldSettlement}
use Rattle.tables.proofs.Meaning.{ticket-same, settlement-same}
use Rattle.verdicts.specs.declared.Verdict.{Verdict}
use Rattle.verdicts.specs.declared.Verdict.TheVariants.{Sound, GrowerOverHours, PilotOverHours, Idle, Blocks}
use Rattle.verdicts.proofs.Spares.{spare_same}
use Rattle.marker.specs.Verdict.{by_pair, walk, pairs, wrong_pair, pair_verdict, free_of_grower, free_of_pilot}
use Rattle.marker.specs.Verdict.{grower_spare, pilot_spare, idle, blocks, wrong_deal, deal_at, deal_verdict}
use Rattle.marker.specs.Verdict.{deals_judged, hours_judged, judged}
use Rattle.marker.proofs.Walks.{first-same}

-- walks over as many places, with the same tests and the same verdicts
walk_same : (f g : ℕ → Bool) (k l : ℕ) (found found' : ℕ → Verdict) (after after' : Verdict) → k ≡ l → ((p : ℕ) → p < l → f p ≡ g p) →
    ((p : ℕ) → p < l → found p ≡ found' p) → after ≡ after' → walk f k found after ≡ walk g l found' after'
walk_same f g k l found found' after after' ek tests verdicts ea =
    rw (ek, first-same f g l tests) (
    ⊎_elim
    (λ h. rw (lt-ltb (first g l) l h) (verdicts (first g l) h))
    (λ h. rw (le-ltb (first g l) l h) ea)
    (lt_or_le (first g l) l)
    )

module _ {t t' : Ticket} {x x' : Settlement} (ticket : SameTicket t t') (settlement : SameSettlement t x x') where
  same-pairs : pairs t' ≡ pairs t
  same-pairs = ap₂ ◌*◌ ticket.growers ticket.pilots

  module _ (i j : ℕ) (hi : i < t.growers) (hj : j < t.pilots) where
    same_wrong_pair : wrong_pair t' x' i j ≡ wrong_pair t x i j
    same_wrong_pair = rw (
      settlement.hours Tariff i j hi hj,
      ticket.tariff_cap i j hi hj,
      settlement.hours Free i j hi hj,
      ticket.free_cap i j hi hj,
      settlement.pay i j hi hj,
      ticket.joint_gain i j hi hj,
    )

    same-pair_verdict : pair_verdict t' x' i j ≡ pair_verdict t x i j
    same-pair_verdict = rw (
      settlement.hours Tariff i j hi hj,
      ticket.tariff_cap i j hi hj,
      settlement.hours Free i j hi hj,
      ticket.free_cap i j hi hj,
    )

    same-free-grower : free_of_grower t' x' i ≡ free_of_grower t x i
    same-free-grower = ap₂ ◌-◌ (ticket.grower_hours i hi) (same-grower ticket settlement i hi)

    same-free-pilot : free_of_pilot t' x' j ≡ free_of_pilot t x j
    same-free-pilot = ap₂ ◌-◌ (ticket.pilot_hours j hj) (same-pilot ticket settlement j hj)

    module _ (d : Deal) where
      same-grower_spare : grower_spare t' x' d i j ≡ grower_spare t x d i j
      same-grower_spare = spare_same _ _ _ _ t.pilots t'.pilots _ _ _ _ d j same-free-grower (ticket.grower_standby i hi)
          ticket.pilots (λ e l hl. settlement.hours e i l hi hl) (λ e l hl. same_earned_grower ticket settlement e i l hi hl)

      same-pilot_spare : pilot_spare t' x' d i j ≡ pilot_spare t x d i j
      same-pilot_spare = spare_same _ _ _ _ t.growers t'.growers _ _ _ _ d i same-free-pilot (ticket.pilot_standby j hj)
          ticket.growers (λ e k hk. settlement.hours e k j hk hj) (λ e k hk. same_earned_pilot ticket settlement e k j hk hj)

      same-idle : idle t' x' d i j ≡ idle t x d i j
      same-idle = rw (settlement.hours d i j hi hj, same-cap ticket settlement d i j hi hj, same-free-grower, same-free-pilot)

      same_blocks : blocks t' x' d i j ≡ blocks t x d i j
      same_blocks = rw (
        settlement.hours d i j hi hj,
        same-cap ticket settlement d i j hi hj,
        same-grower_spare,
        same-pilot_spare,
        ticket.tariff_gain i j hi hj,
        ticket.tariff_pay i j hi hj,
        ticket.joint_gain i j hi hj,
      )

      same_wrong_deal : wrong_deal t' x' d i j ≡ wrong_deal t x d i j
      same_wrong_deal = rw (same-idle, same_blocks)

      same_deal_verdict : (count : ℕ) → deal_verdict t' x' count i j d ≡ deal_verdict t x count i j d
      same_deal_verdict count = ap (λ (b : Bool). cond b (Idle i j d count) (Blocks i j d count)) same-idle

  same_deals : {worth worth' : ℕ} → worth' ≡ worth → deals_judged t' x' worth' ≡ deals_judged t x worth
  same_deals e = walk_same _ _ _ (2 * pairs t) _ _ _ _ (ap (λ (k : ℕ). 2 * k) same-pairs)
      (λ p h. let w = within t.growers t.pilots p h in
      ap (λ (k : ℕ). by_place (λ i j d. wrong_deal t' x' (deal_at d) i j) k p) ticket.pilots
      ∙ same_wrong_deal (p / 2 / t.pilots) (p / 2 % t.pilots) w.grower w.pilot (deal_at (p % 2)))
      (λ p h. let w = within t.growers t.pilots p h in
      ap (λ (k : ℕ). deal_verdict t' x' (p + 1) (p / 2 / k) (p / 2 % k) (deal_at (p % 2))) ticket.pilots
      ∙ same_deal_verdict (p / 2 / t.pilots) (p / 2 % t.pilots) w.grower w.pilot (deal_at (p % 2)) (p + 1))
      (ap₂ (λ (k w : ℕ). Sound (2 * k) w) same-pairs e)

  same-hours : {worth worth' : ℕ} → worth' ≡ worth → hours_judged t' x' worth' ≡ hours_judged t x worth
  same-hours e = walk_same _ _ _ t.growers GrowerOverHours GrowerOverHours _ _ ticket.growers
      (λ i hi. ap₂ ltb (ticket.grower_hours i hi) (same-grower ticket settlement i hi)) (λ i hi. refl)
      (walk_same _ _ _ t.pilots PilotOverHours PilotOverHours _ _ ticket.pilots
      (λ j hj. ap₂ ltb (ticket.pilot_hours j hj) (same-pilot ticket settlement j hj)) (λ j hj. refl) (same_deals e))

  pub same-judged : judged t' x' ≡ judged t x
  same-judged = walk_same _ _ _ (pairs t) _ _ _ _ same-pairs
      (λ p h. let w = inside t.growers t.pilots p h in
      ap (λ (k : ℕ). by_pair (wrong_pair t' x') k p) ticket.pilots
      ∙ same_wrong_pair (p / t.pilots) (p % t.pilots) w.grower w.pilot)
      (λ p h. let w = inside t.growers t.pilots p h in
      ap (λ (k : ℕ). by_pair (pair_verdict t' x') k p) ticket.pilots
      ∙ same-pair_verdict (p / t.pilots) (p % t.pilots) w.grower w.pilot)
      (same-hours (promised_same ticket settlement))

-- the verdict on the squares that hold what two lists say is the verdict on the lists
pub judged_lists : (list answer : List ℕ) (n m : ℕ) → n ≡ growers_of list → m ≡ pilots_of list → n ≤ 16 → m ≤ 16 →
    growers_of answer ≡ growers_of list → pilots_of answer ≡ pilots_of list →
    {grower_hours pilot_hours : List ℕ} {tariff_cap tariff_gain tariff_pay free_cap joint_gain tariff_hours free_deal_hours pay : Grid} →
    HoldTicket list grower_hours pilot_hours tariff_cap tariff_gain tariff_pay free_cap joint_gain → HoldSettlement answer tariff_hours
    free_deal_hours pay →
    judged (ticket_in n m grower_hours pilot_hours tariff_cap tariff_gain tariff_pay free_cap joint_gain)
    (settlement_in tariff_hours free_deal_hours pay)
    ≡ judged (ticket_of list) (settlement_of answer)
judged_lists list answer n m en em hn hm ag ap held answers =
    sym (same-judged (ticket-same list n m en em hn hm held)
    (settlement-same answer n m (omega arith) (omega arith) hn hm answers _ refl refl))
