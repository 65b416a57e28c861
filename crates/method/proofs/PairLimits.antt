-- What the slack of a grower, and of pilots, says of one more pair.
-- Assumes nothing.
use Prim.Native.Nat.{ℕ, suc, ◌+◌, ◌*◌, ◌-◌, ◌≤◌, ◌<◌, min, max}
use mathlib.Core.Bool.{Bool, true, false, ◌&&◌}
use mathlib.Core.Path.{◌≡◌}
use mathlib.Core.Logic.{⊎_elim}
use lib.Dec.{ltb}
use native.Mathlib.Omega.{arith}
use borrow.Author.Tests.{lt-ltb}
use Rattle.grid.specs.Pick.{pick}
use Rattle.grid.proofs.Cases.{lt_or_le}
use Rattle.offers.specs.declared.Terms.{Terms}
use Rattle.offers.specs.declared.Agreed.{Agreed}
use Rattle.offers.specs.Chances.{tariff_chance, free_chance}
use Rattle.offers.specs.Limits.{top_price, tariff_slack, worth_here, outside_of, pilot_slack}

pick_le : (b : Bool) (x y z : ℕ) → x ≤ z → y ≤ z → pick b x y ≤ z
pick_le true x y z h l = h
pick_le false x y z h l = l

module _ (marked : Bool) (terms : Terms) (agreed : Agreed) (price : ℕ) where
  tariff_slack_less : (by : ℕ) → tariff_slack by marked terms agreed price ≤ by
  tariff_slack_less by =
      pick_le (marked && ltb 0 agreed.by_tariff) (min by (suc (18 * terms.tariff_pay) - price)) by by
      (omega arith) (omega arith)

  tariff_slack_here : (by : ℕ) → marked ≡ true → 0 < agreed.by_tariff →
      tariff_slack by marked terms agreed price ≤ 18 * terms.tariff_pay + 1 - price
  tariff_slack_here by m h = rw (m, lt-ltb 0 agreed.by_tariff h) (omega arith)

  worth_old : marked ≡ true → 0 < agreed.old_free → worth_here marked terms agreed price ≤ suc (suc (18 * terms.joint_gain)) - price
  worth_old m h =
      rw (m, lt-ltb 0 agreed.old_free h)
      (pick_le (ltb 0 agreed.new_free) (suc (18 * terms.joint_gain) - price) (suc (suc (18 * terms.joint_gain)) - price)
      (suc (suc (18 * terms.joint_gain)) - price) (omega arith) (omega arith))

  worth_new : marked ≡ true → 0 < agreed.new_free → worth_here marked terms agreed price ≤ suc (18 * terms.joint_gain) - price
  worth_new m h = rw (m, lt-ltb 0 agreed.new_free h) (omega arith)

  outside_tariff : (b : Bool) → tariff_chance terms agreed price ≤ outside_of b terms agreed price
  outside_tariff true = omega arith
  outside_tariff false = omega arith

  outside-free : marked ≡ false → free_chance terms agreed price ≤ outside_of marked terms agreed price
  outside-free m = rw m (omega arith)

  -- what a grower bears with one more pilot, and without him: by is what his tariff hours bear
  pub tariffs_by : (by r : ℕ) → r ≡ tariff_slack by marked terms agreed price →
      (r ≤ by) × (marked ≡ true → 0 < agreed.by_tariff → r ≤ 18 * terms.tariff_pay + 1 - price)
  tariffs_by by r e = rw e (tariff_slack_less by, tariff_slack_here by)

  -- r is the least worth of his free-deal hours
  pub worth_by : (here r : ℕ) → here ≡ worth_here marked terms agreed price → r ≤ here →
      (marked ≡ true → 0 < agreed.old_free → r ≤ suc (suc (18 * terms.joint_gain)) - price) ×
      (marked ≡ true → 0 < agreed.new_free → r ≤ suc (18 * terms.joint_gain) - price)
  worth_by here r e le = (λ m h. omega (arith, worth_old m h), λ m h. omega (arith, worth_new m h))

  -- top is the most that his other open deals offer
  pub offers_by : (here top r : ℕ) → here ≡ outside_of marked terms agreed price → r ≡ max top here →
      (top ≤ r) × (tariff_chance terms agreed price ≤ r) × (marked ≡ false → free_chance terms agreed price ≤ r)
  offers_by here top r e is = (omega arith, omega (arith, outside_tariff marked), λ m. omega (arith, outside-free m))

-- what pilots bear with one more, and without him
pub pilot_less : (by : ℕ) (marked : Bool) (free price : ℕ) → pilot_slack by marked free price ≤ by
pilot_less by marked free price =
    pick_le marked (pick (ltb 0 free) 0 (min by (top_price - price))) by by
    (pick_le (ltb 0 free) 0 (min by (top_price - price)) by (omega arith) (omega arith)) (omega arith)

pub pilot-below : (by : ℕ) (marked : Bool) (free price : ℕ) → marked ≡ true → pilot_slack by marked free price ≤ top_price - price
pilot-below by marked free price m =
    rw m (pick_le (ltb 0 free) 0 (min by (top_price - price)) (top_price - price) (omega arith) (omega arith))

pub pilot_full : (by : ℕ) (marked : Bool) (free price : ℕ) → marked ≡ true → 0 < pilot_slack by marked free price → free ≡ 0
pilot_full by marked free price m h =
    ⊎_elim (λ some. let z : 0 < 0 = rw (m, lt-ltb 0 free some) at h in absurd (omega arith)) (λ none. omega arith) (lt_or_le 0 free)
