-- The values of every verdict on files are small: `marked_bounded`, `worth_bounded`.
-- Assumes nothing.
use Rattle.checks.specs.declared.refusals.Refusal.{Refusal}
use Rattle.std.specs.Prelude.{Ok, Err}
use Prim.Native.Nat.{ℕ, ◌+◌, ◌*◌, ◌/◌, ◌%◌, ◌≤◌, ◌<◌}
use mathlib.Core.Path.{◌≡◌, refl, ap}
use mathlib.Core.Bool.{Bool, true, false, cond}
use mathlib.Core.Logic.{⊎_elim}
use mathlib.Core.List.{List}
use native.Mathlib.Nat.{mul-le-mul}
use native.Mathlib.Omega.{arith}
use borrow.Author.Tests.{lt-ltb, le-ltb}
use Rattle.grid.specs.First.{first}
use Rattle.grid.specs.Sum.{sum}
use Rattle.grid.proofs.Cases.{lt_or_le, eq_or_ne}
use Rattle.grid.proofs.Places.{inside, within}
use Rattle.grid.proofs.Sums.{sum_bound}
use Rattle.numbers.proofs.Products.{prod_small}
use Rattle.market.specs.declared.Deal.{Deal}
use Rattle.market.specs.declared.Deal.TheVariants.{Tariff, Free}
use Rattle.market.specs.Market.{Ticket, Settlement, Feasible}
use Rattle.market.specs.Totals.{gain_total, promised_worth}
use Rattle.market.proofs.BestTotal.{worth_is_gain}
use Rattle.market.proofs.PromisedWorth.{promised_at_most}
use Rattle.reader.specs.Walk.{Outcome}
use Rattle.reader.specs.Answer.{unpacked, settlement_read}
use Rattle.tables.specs.View.{growers_of, pilots_of, ticket_of, settlement_of}
use Rattle.verdicts.specs.declared.Verdict.{Verdict}
use Rattle.verdicts.specs.declared.Verdict.TheVariants.{Refused, Sound, TariffOverCap, FreeOverCap, WrongPay}
use Rattle.verdicts.specs.declared.Verdict.TheVariants.{GrowerOverHours, PilotOverHours, Idle, Blocks}
use Rattle.verdicts.specs.Values.{values_of, verdict_number, verdict_worth, Bounded, most_worth}
use Rattle.marker.specs.Verdict.{walk, by_pair, pairs, deal_at, over_cap, idle, grower_over, pilot_over, pair_verdict, pair_fault_at}
use Rattle.marker.specs.Verdict.{deal_verdict, deal_fault_at, deal_verdict_at, deals_judged, hours_judged, judged}
use Rattle.marker.specs.Marked.{settlement_marked, ticket_marked, marked, marked_values, SoundFiles}
use Rattle.marker.proofs.Marking.{few_parties, marked_sound_exactly, sound_files_marked}
use Rattle.marker.proofs.BestWorth.{worth_only_if_sound}
use Rattle.marker.proofs.TicketLimits.{Limits, limits}

abbrev BoundedOf : Verdict → Type 0
BoundedOf v = Bounded (values_of v)

either : (test : Bool) (a b : Verdict) → BoundedOf a → BoundedOf b → BoundedOf (cond test a b)
either true a b p q = p
either false a b p q = q

walk_bounded : (test : ℕ → Bool) (k : ℕ) (found : ℕ → Verdict) (after : Verdict) → ((p : ℕ) → p < k → BoundedOf (found p)) →
    BoundedOf after → BoundedOf (walk test k found after)
walk_bounded test k found after here later =
    let p = first test k in
    ⊎_elim (λ l. rw (lt-ltb p k l) (here p l)) (λ l. rw (le-ltb p k l) later) (lt_or_le p k)

refused_bounded : (why : Refusal) → BoundedOf (Refused why)
refused_bounded why = record { verdict = omega arith; grower = omega arith; pilot = omega arith; count = omega arith }

module _ (t : Ticket) (x : Settlement) (few_growers : t.growers ≤ 16) (few_pilots : t.pilots ≤ 16) where
  pair_bounded : (i j : ℕ) → i < t.growers → j < t.pilots → BoundedOf (pair_verdict t x i j)
  pair_bounded i j hi hj =
      either (over_cap t x Tariff i j) (TariffOverCap i j) (cond (over_cap t x Free i j) (FreeOverCap i j) (WrongPay i j))
      (record { verdict = omega arith; grower = omega arith; pilot = omega arith; count = omega arith })
      (either (over_cap t x Free i j) (FreeOverCap i j) (WrongPay i j)
      (record { verdict = omega arith; grower = omega arith; pilot = omega arith; count = omega arith })
      (record { verdict = omega arith; grower = omega arith; pilot = omega arith; count = omega arith }))

  deal_bounded : (count i j : ℕ) (d : Deal) → i < t.growers → j < t.pilots → count ≤ 512 → BoundedOf (deal_verdict t x count i j d)
  deal_bounded count i j d hi hj hc =
      either (idle t x d i j) (Idle i j d count) (Blocks i j d count)
      (record { verdict = omega arith; grower = omega arith; pilot = omega arith; count = omega arith })
      (record { verdict = omega arith; grower = omega arith; pilot = omega arith; count = omega arith })

  -- two deals for each of at most 256 pairs
  few_deals : 2 * pairs t ≤ 512
  few_deals = omega (arith, prod_small t.growers t.pilots few_growers few_pilots)

  deals_bounded : (worth : ℕ) → BoundedOf (deals_judged t x worth)
  deals_bounded worth =
      walk_bounded (deal_fault_at t x) (2 * pairs t) (deal_verdict_at t x) (Sound (2 * pairs t) worth)
      (λ p h. let i = within t.growers t.pilots p h in
      deal_bounded (p + 1) (p / 2 / t.pilots) (p / 2 % t.pilots) (deal_at (p % 2)) i.grower i.pilot (omega (arith, few_deals)))
      (record { verdict = omega arith; grower = omega arith; pilot = omega arith; count = few_deals })

  hours_bounded : (worth : ℕ) → BoundedOf (hours_judged t x worth)
  hours_bounded worth =
      walk_bounded (grower_over t x) t.growers GrowerOverHours (walk (pilot_over t x) t.pilots PilotOverHours (deals_judged t x worth))
      (λ i h. record { verdict = omega arith; grower = omega arith; pilot = omega arith; count = omega arith })
      (walk_bounded (pilot_over t x) t.pilots PilotOverHours (deals_judged t x worth)
      (λ j h. record { verdict = omega arith; grower = omega arith; pilot = omega arith; count = omega arith }) (deals_bounded worth))

  judged_bounded : BoundedOf (judged t x)
  judged_bounded =
      walk_bounded (pair_fault_at t x) (pairs t) (by_pair (pair_verdict t x) t.pilots) (hours_judged t x (promised_worth t x.hours))
      (λ p h. let i = inside t.growers t.pilots p h in pair_bounded (p / t.pilots) (p % t.pilots) i.grower i.pilot)
      (hours_bounded (promised_worth t x.hours))

settlement_bounded : (xs : List ℕ) (o : Outcome) → growers_of xs ≤ 16 → pilots_of xs ≤ 16 → BoundedOf (settlement_marked xs o)
settlement_bounded xs (Err w) n m = refused_bounded w
settlement_bounded xs (Ok ys) n m = judged_bounded (ticket_of xs) (settlement_of ys) n m

ticket_bounded : (t s : List ℕ) (o : Outcome) → unpacked t ≡ o → BoundedOf (ticket_marked o s)
ticket_bounded t s (Err w) e = refused_bounded w
ticket_bounded t s (Ok xs) e =
    let f = few_parties t xs e in settlement_bounded xs (settlement_read (growers_of xs) (pilots_of xs) s) f.0 f.1

pub marked_bounded : (t s : List ℕ) → Bounded (marked_values t s)
marked_bounded t s = ticket_bounded t s (unpacked t) refl

-- The worth. It has a bound of its own, since only a feasible settlement's is small.

module _ (t : Ticket) (x : Settlement) (l : Limits t) (f : Feasible t x) where
  abbrev gain : ℕ → ℕ → ℕ
  gain i j = x.hours Free i j * t.joint_gain i j

  pair_small : (i j : ℕ) → i < t.growers → j < t.pilots → gain i j ≤ 60 * 500
  pair_small i j hi hj =
      let few : x.hours Free i j ≤ 60 = omega (arith, f.fits.deal Free i j hi hj, l.free_cap i j hi hj) in
      mul-le-mul few (l.joint_gain i j hi hj)

  grower_small : (i : ℕ) → i < t.growers → sum (gain i) t.pilots ≤ 480000
  grower_small i hi = omega (arith, l.pilots, sum_bound (gain i) 30000 t.pilots (λ j hj. pair_small i j hi hj))

  gain_small : gain_total t x.hours ≤ most_worth
  gain_small = omega (arith, l.growers, sum_bound (λ i. sum (gain i) t.pilots) 480000 t.growers grower_small)

sound_worth : (t s : List ℕ) → SoundFiles t s → verdict_worth (marked t s) ≤ most_worth
sound_worth t s f =
    let ticket = ticket_of f.numbers in
    let x = settlement_of f.answer in
    omega (
      arith,
      ap verdict_worth (sound_files_marked t s f),
      promised_at_most ticket x.hours,
      worth_is_gain ticket (λ i h. refl) (λ j h. refl) x.hours,
      gain_small ticket x (limits t f.numbers f.is_ticket) f.sound.feasible,
    )

pub worth_bounded : (t s : List ℕ) → verdict_worth (marked t s) ≤ most_worth
worth_bounded t s = ⊎_elim
    (λ one. sound_worth t s ((marked_sound_exactly t s).0 one))
    (λ unsound. omega (arith, worth_only_if_sound (marked t s) unsound))
    (eq_or_ne (verdict_number (marked t s)) 1)
