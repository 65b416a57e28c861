-- The verdict is sound exactly when market calls the settlement sound. Each test says what market's predicate says.
-- Assumes nothing.
use Prim.Native.Nat.{ℕ, ◌+◌, ◌*◌, ◌/◌, ◌%◌, ◌≤◌, ◌<◌}
use mathlib.Core.Path.{◌≡◌, refl, sym, ◌∙◌}
use mathlib.Core.Bool.{Bool, true, false, cond, ◌&&◌, ◌||◌, true≢false, false≢true}
use mathlib.Core.Logic.{◌↔◌, ⊎_elim, inl, inr}
use native.Mathlib.Omega.{arith}
use lib.Dec.{ltb, eqb}
use borrow.Author.Tests.{ltb-true, ltb-false, lt-ltb, le-ltb, eq-eqb, ne_eqb}
use Rattle.grid.specs.First.{NoneBefore, first}
use Rattle.grid.proofs.Cases.{eq_or_ne}
use Rattle.market.specs.declared.Deal.{Deal}
use Rattle.market.specs.declared.Deal.TheVariants.{Tariff, Free}
use Rattle.market.specs.Market as market
use Rattle.market.specs.Market.{Ticket, Settlement, Cheapest, Feasible, SpareOfGrower, SpareOfPilot}
use Rattle.market.specs.Totals.{promised_worth}
use Rattle.market.specs.WithoutStandby.{NoStandby}
use Rattle.market.proofs.Gains.{always_welcome}
use Rattle.market.proofs.WithoutStandby.{at_least_standby}
use Rattle.certificate.specs.Certified.{certified}
use Rattle.certificate.proofs.Soundness.{certified_sound}
use Rattle.verdicts.specs.declared.Verdict.{Verdict}
use Rattle.verdicts.specs.declared.Verdict.TheVariants.{Sound, TariffOverCap, FreeOverCap, WrongPay, GrowerOverHours, PilotOverHours}
use Rattle.verdicts.specs.declared.Verdict.TheVariants.{Idle, Blocks}
use Rattle.verdicts.specs.Tests.{below, both_below, pay_test}
use Rattle.verdicts.specs.Values.{verdict_number, FoundFeasible}
use Rattle.verdicts.proofs.CheapestSpares.{below_iff, both-below_iff}
use Rattle.marker.specs.Verdict.{wrong_pair, wrong_pay, free_of_grower, free_of_pilot, grower_over, pilot_over}
use Rattle.marker.specs.Verdict.{idle, blocks, wrong_deal, grower_spare, pilot_spare}
use Rattle.marker.specs.Verdict.{by_pair, deal_at, walk, pair_verdict, deal_verdict, deal_verdict_at, pairs, pair_fault_at, deal_fault_at}
use Rattle.marker.specs.Verdict.{deals_judged, hours_judged, judged, over_cap}
use Rattle.marker.proofs.Walks.{walk_passes, walk-passed, none-pairs, none_deals}
use Rattle.marker.proofs.CheapestSpares.{cheapest_of-grower, cheapest_of-pilot}

-- tests joined
both_true : (a b : Bool) → (a && b) ≡ true → (a ≡ true) × (b ≡ true)
both_true true b h = (refl, h)
both_true false b h = absurd (false≢true h)

either_false : (a b : Bool) → (a || b) ≡ false → (a ≡ false) × (b ≡ false)
either_false true b h = absurd (true≢false h)
either_false false b h = (refl, h)

-- a test that holds only if something does, which does not
refuted : (b : Bool) (P : Type 0) → (b ≡ true → P) → ¬ P → b ≡ false
refuted true P f no_p = absurd (no_p (f refl))
refuted false P f no_p = refl

-- and the other way: what would make it hold does not hold
denied : (b : Bool) (P : Type 0) → (P → b ≡ true) → b ≡ false → ¬ P
denied b P f h p = true≢false (sym (f p) ∙ h)

module _ (t : Ticket) (x : Settlement) where
  -- the tests of the cheapest spares, of each and of both
  grower-below : (d : Deal) (i j v : ℕ) → (below (grower_spare t x d i j) v ≡ true) ↔ ((w : ℕ) × SpareOfGrower t x d i j w × (w < v))
  grower-below d i j = below_iff (SpareOfGrower t x d i j) (grower_spare t x d i j) (cheapest_of-grower t x d i j)

  pilot-below : (d : Deal) (i j v : ℕ) → (below (pilot_spare t x d i j) v ≡ true) ↔ ((w : ℕ) × SpareOfPilot t x d i j w × (w < v))
  pilot-below d i j = below_iff (SpareOfPilot t x d i j) (pilot_spare t x d i j) (cheapest_of-pilot t x d i j)

  both_below_lem : (d : Deal) (i j v : ℕ) → (both_below (grower_spare t x d i j) (pilot_spare t x d i j) v ≡ true) ↔
      ((w : ℕ) × (u : ℕ) × Cheapest (SpareOfGrower t x d i j) w × Cheapest (SpareOfPilot t x d i j) u × (w + u < v))
  both_below_lem d i j =
      both-below_iff (SpareOfGrower t x d i j) (SpareOfPilot t x d i j) (grower_spare t x d i j) (pilot_spare t x d i j)
      (cheapest_of-grower t x d i j) (cheapest_of-pilot t x d i j)

  pub blocks_iff : (d : Deal) (i j : ℕ) → (blocks t x d i j ≡ true) ↔ market.Blocks t x d i j
  blocks_iff Tariff i j = (
    λ h. let z = both_true (ltb (x.hours Tariff i j) (t.tariff_cap i j)) _ h in
        let y = both_true (below (grower_spare t x Tariff i j) (t.tariff_gain i j)) _ z.1 in
        let g = (grower-below Tariff i j (t.tariff_gain i j)).0 y.0 in
        let p = (pilot-below Tariff i j (t.tariff_pay i j)).0 y.1 in
        (g.0, p.0, ltb-true _ _ z.0, g.1, p.1, g.2, p.2),
    λ b. rw (
      lt-ltb (x.hours Tariff i j) (t.tariff_cap i j) b.2,
      (grower-below Tariff i j (t.tariff_gain i j)).1 (b.0, b.3, b.5),
      (pilot-below Tariff i j (t.tariff_pay i j)).1 (b.1, b.4, b.6),
    ),
  )
  blocks_iff Free i j = (
    λ h. let z = both_true (ltb (x.hours Free i j) (t.free_cap i j)) _ h in
        let y = (both_below_lem Free i j (t.joint_gain i j)).0 z.1 in
        (y.0, y.1, ltb-true _ _ z.0, y.2, y.3, y.4),
    λ b. rw (
      lt-ltb (x.hours Free i j) (t.free_cap i j) b.2,
      (both_below_lem Free i j (t.joint_gain i j)).1 (b.0, b.1, b.3, b.4, b.5),
    ),
  )

  pub idle_iff : NoStandby t → (d : Deal) (i j : ℕ) → (idle t x d i j ≡ true) ↔ market.Idle t x d i j
  idle_iff free d i j = (
    λ h. let z = both_true _ _ h in
        let y = both_true _ _ z.1 in
        record {
          unfilled = ltb-true _ _ z.0;
          grower = omega (arith, ltb-true 0 (free_of_grower t x i) y.0);
          pilot = omega (arith, ltb-true 0 (free_of_pilot t x j) y.1);
          welcome = always_welcome t d i j (free.grower i) (free.pilot j);
        },
    λ is. rw (
      lt-ltb _ _ is.unfilled,
      lt-ltb 0 (free_of_grower t x i) (omega (arith, is.grower)),
      lt-ltb 0 (free_of_pilot t x j) (omega (arith, is.pilot)),
    ),
  )

  -- no pair, no grower and no pilot is at fault
  pub record Faultless : Type 0 where
    pub pair : (i j : ℕ) → i < t.growers → j < t.pilots → wrong_pair t x i j ≡ false
    pub grower : NoneBefore (grower_over t x) t.growers
    pub pilot : NoneBefore (pilot_over t x) t.pilots

  pay_nothing_lem : (gain hours pay : ℕ) → pay_test gain hours pay ≡ false → hours ≡ 0 → pay ≡ 0
  pay_nothing_lem gain hours pay h e =
      omega (arith, ltb-false 0 pay (rw (eq-eqb hours 0 e) at (either_false (ltb gain pay) (eqb hours 0 && ltb 0 pay) h).1))

  pay_right : (gain hours pay : ℕ) → pay ≤ gain → (hours ≡ 0 → pay ≡ 0) → pay_test gain hours pay ≡ false
  pay_right gain hours pay h nothing = rw (le-ltb gain pay h) (⊎_elim
      (λ e. rw (eq-eqb hours 0 e) (le-ltb 0 pay (omega (arith, nothing e))))
      (λ n. rw (ne_eqb hours 0 n))
      (eq_or_ne hours 0))

  -- what is right with a pair
  record RightPair (i j : ℕ) : Type 0 where
    tariff : ltb (t.tariff_cap i j) (x.hours Tariff i j) ≡ false
    free : ltb (t.free_cap i j) (x.hours Free i j) ≡ false
    pay : wrong_pay t x i j ≡ false

  right-pair : (i j : ℕ) → wrong_pair t x i j ≡ false → RightPair i j
  right-pair i j h =
      let a = either_false (over_cap t x Tariff i j) (over_cap t x Free i j || wrong_pay t x i j) h in
      let b = either_false (over_cap t x Free i j) (wrong_pay t x i j) a.1 in
      record { tariff = a.0; free = b.0; pay = b.1 }

  feasible : Faultless → Feasible t x
  feasible f = record {
    fits = record {
      deal = λ d i j hi hj. deal d i j (right-pair i j (f.pair i j hi hj));
      grower = λ i hi. ltb-false _ _ (f.grower i hi);
      pilot = λ j hj. ltb-false _ _ (f.pilot j hj);
    };
    pay_in_gain = λ i j hi hj. in_gain i j (right-pair i j (f.pair i j hi hj)).pay;
    pay_nothing = λ i j hi hj e. pay_nothing_lem (t.joint_gain i j) _ _ (right-pair i j (f.pair i j hi hj)).pay e;
  }
    where
      deal : (d : Deal) (i j : ℕ) → RightPair i j → x.hours d i j ≤ market.cap t d i j
      deal Tariff i j r = ltb-false _ _ r.tariff
      deal Free i j r = ltb-false _ _ r.free

      in_gain : (i j : ℕ) → wrong_pay t x i j ≡ false → x.pay i j ≤ t.joint_gain i j
      in_gain i j h =
          ltb-false _ _ (either_false (ltb (t.joint_gain i j) (x.pay i j)) (eqb (x.hours Free i j) 0 && ltb 0 (x.pay i j)) h).0

  faultless : Feasible t x → Faultless
  faultless f = record {
    pair = λ i j hi hj.
        rw (
          le-ltb (t.tariff_cap i j) (x.hours Tariff i j) (f.fits.deal Tariff i j hi hj),
          le-ltb (t.free_cap i j) (x.hours Free i j) (f.fits.deal Free i j hi hj),
        )
        (pay_right _ _ _ (f.pay_in_gain i j hi hj) (f.pay_nothing i j hi hj));
    grower = λ i hi. le-ltb _ _ (f.fits.grower i hi);
    pilot = λ j hj. le-ltb _ _ (f.fits.pilot j hj);
  }

  pub feasible_iff : Faultless ↔ Feasible t x
  feasible_iff = (feasible, faultless)

  -- no walk finds anything
  pub record Passed : Type 0 where
    pub faultless : Faultless
    pub deal : (d : Deal) (i j : ℕ) → i < t.growers → j < t.pilots → wrong_deal t x d i j ≡ false

  pub passed_iff : NoStandby t → Passed ↔ market.Sound t x
  passed_iff free = (
    λ p. record {
      feasible = feasible_iff.0 p.faultless;
      standby = at_least_standby t x free;
      nothing_idle = λ d i j hi hj. denied _ _ (idle_iff free d i j).1
          (either_false (idle t x d i j) (blocks t x d i j) (p.deal d i j hi hj)).0;
      nothing_blocks = λ d i j hi hj. denied _ _ (blocks_iff d i j).1
          (either_false (idle t x d i j) (blocks t x d i j) (p.deal d i j hi hj)).1;
    },
    λ s. record {
      faultless = feasible_iff.1 s.feasible;
      deal = λ d i j hi hj. rw (refuted _ _ (idle_iff free d i j).0 (s.nothing_idle d i j hi hj))
          (refuted _ _ (blocks_iff d i j).0 (s.nothing_blocks d i j hi hj));
    },
  )

  -- the worth that is given with a sound verdict
  abbrev worth : ℕ
  worth = promised_worth t x.hours

  -- what follows the walk over growers
  abbrev pilots_judged : Verdict
  pilots_judged = walk (pilot_over t x) t.pilots PilotOverHours (deals_judged t x worth)

  -- without a fault before it, the last walk has the verdict
  faultless_judged : Faultless → judged t x ≡ deals_judged t x worth
  faultless_judged f =
      walk_passes (pair_fault_at t x) (pairs t) (by_pair (pair_verdict t x) t.pilots) (hours_judged t x worth)
      ((none-pairs (wrong_pair t x) t.growers t.pilots).1 f.pair)
      ∙ walk_passes (grower_over t x) t.growers GrowerOverHours pilots_judged f.grower
      ∙ walk_passes (pilot_over t x) t.pilots PilotOverHours (deals_judged t x worth) f.pilot

  -- then the verdict is sound, with all deals looked at; and only then
  passes : Passed → judged t x ≡ Sound (2 * pairs t) (promised_worth t x.hours)
  passes p =
      faultless_judged p.faultless
      ∙ walk_passes (deal_fault_at t x) (2 * pairs t) (deal_verdict_at t x) (Sound (2 * pairs t) worth)
      ((none_deals (wrong_deal t x) t.growers t.pilots).1 p.deal)

  -- faults of pairs and of hours are not feasible
  early : (v : Verdict) → 2 ≤ verdict_number v → verdict_number v ≤ 6 → FoundFeasible v → ⊥
  early v a b f = ⊎_elim (λ e. omega arith) (λ g. ⊎_elim (λ e. omega arith) (λ e. omega arith) g) f

  pair_fails : (b c : Bool) (i j : ℕ) → FoundFeasible (cond b (TariffOverCap i j) (cond c (FreeOverCap i j) (WrongPay i j))) → ⊥
  pair_fails true c i j h = early (TariffOverCap i j) (omega arith) (omega arith) h
  pair_fails false true i j h = early (FreeOverCap i j) (omega arith) (omega arith) h
  pair_fails false false i j h = early (WrongPay i j) (omega arith) (omega arith) h

  deal_fails : (b : Bool) (i j count : ℕ) (d : Deal) → verdict_number (cond b (Idle i j d count) (Blocks i j d count)) ≡ 1 → ⊥
  deal_fails true i j count d h = omega arith
  deal_fails false i j count d h = omega arith

  -- a verdict that only a feasible settlement has is that of the last walk
  last-walk : (P : Verdict → Type 0) → ((v : Verdict) → P v → FoundFeasible v) → P (judged t x) → Faultless × P (deals_judged t x worth)
  last-walk P late h =
      let a = walk-passed (pair_fault_at t x) (pairs t) (by_pair (pair_verdict t x) t.pilots) (hours_judged t x worth) P
      (λ p z. let i = p / t.pilots in let j = p % t.pilots in
      pair_fails (over_cap t x Tariff i j) (over_cap t x Free i j) i j (late _ z)) h in
      let b = walk-passed (grower_over t x) t.growers GrowerOverHours pilots_judged P
      (λ i z. early (GrowerOverHours i) (omega arith) (omega arith) (late _ z)) a.1 in
      let c = walk-passed (pilot_over t x) t.pilots PilotOverHours (deals_judged t x worth) P
      (λ j z. early (PilotOverHours j) (omega arith) (omega arith) (late _ z)) b.1 in (
        record {
          pair = (none-pairs (wrong_pair t x) t.growers t.pilots).0 a.0;
          grower = b.0;
          pilot = c.0;
        },
        c.1,
      )

  passed : verdict_number (judged t x) ≡ 1 → Passed
  passed h =
      let l = last-walk (λ v. verdict_number v ≡ 1) (λ v e. inl e) h in
      let d = walk-passed (deal_fault_at t x) (2 * pairs t) (deal_verdict_at t x) (Sound (2 * pairs t) worth) (λ v. verdict_number v ≡ 1)
      (λ p. let i = p / 2 / t.pilots in let j = p / 2 % t.pilots in let e = deal_at (p % 2) in
      deal_fails (idle t x e i j) i j (p + 1) e) l.1 in
      record { faultless = l.0; deal = (none_deals (wrong_deal t x) t.growers t.pilots).0 d.0 }

  deal_feasible : (b : Bool) (i j count : ℕ) (d : Deal) → FoundFeasible (cond b (Idle i j d count) (Blocks i j d count))
  deal_feasible true i j count d = inr (inl refl)
  deal_feasible false i j count d = inr (inr refl)

  either_feasible : (b : Bool) (v w : Verdict) → FoundFeasible v → FoundFeasible w → FoundFeasible (cond b v w)
  either_feasible true v w f g = f
  either_feasible false v w f g = g

  -- The verdict is one on a feasible settlement exactly when the settlement is feasible.
  pub feasible_exactly : FoundFeasible (judged t x) ↔ Feasible t x
  feasible_exactly = (
    λ f. feasible_iff.0 (last-walk FoundFeasible (λ v z. z) f).0,
    λ f. let p = first (deal_fault_at t x) (2 * pairs t) in
        let i = p / 2 / t.pilots in
        let j = p / 2 % t.pilots in
        let d = deal_at (p % 2) in
        rw (faultless_judged (feasible_iff.1 f))
        (either_feasible (ltb p (2 * pairs t)) (deal_verdict t x (p + 1) i j d) (Sound (2 * pairs t) worth)
        (deal_feasible (idle t x d i j) i j (p + 1) d) (inl refl)),
  )

  -- The verdict is sound exactly when the settlement is.
  pub sound_exactly : NoStandby t → (judged t x ≡ Sound (2 * pairs t) (promised_worth t x.hours)) ↔ market.Sound t x
  sound_exactly free = (λ e. (passed_iff free).0 (passed (rw e)), λ s. passes ((passed_iff free).1 s))

  -- A sound verdict has looked at all deals, and gives the settlement's worth.
  pub sound_values_lem : (count given : ℕ) → judged t x ≡ Sound count given → (count ≡ 2 * pairs t) × (given ≡ promised_worth t x.hours)
  sound_values_lem count given e = let z = passes (passed (rw e)) in (cc, cc)

  -- The same by the verdict's number.
  pub sound_number : NoStandby t → (verdict_number (judged t x) ≡ 1) ↔ market.Sound t x
  sound_number free = (λ h. (passed_iff free).0 (passed h), λ s. rw (passes ((passed_iff free).1 s)))

  -- What is certified is judged sound.
  pub certified-judged : NoStandby t → certified t x ≡ true → (count given : ℕ) → count ≡ 2 * pairs t → given ≡ promised_worth t x.hours →
      Sound count given ≡ judged t x
  certified-judged free certain count given ec eg = rw (ec, eg) (sym ((sound_exactly free).1 (certified_sound t x certain)))
