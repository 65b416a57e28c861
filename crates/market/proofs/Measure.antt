-- Every step leaves less to do.
-- Assumes nothing.
use Prim.Native.Nat.{ℕ, suc, ◌+◌, ◌*◌, ◌-◌, ◌≤◌, ◌<◌}
use mathlib.Core.Path.{◌≡◌, refl}
use mathlib.Core.Logic.{◌≢◌}
use native.Mathlib.Decide.{dec_lt}
use native.Mathlib.Omega.{arith}
use borrow.Author.Tests.{lt-ltb, le-ltb}
use Rattle.market.specs.declared.Deal.TheVariants.{Tariff, Free}
use Rattle.market.specs.Market.{Ticket, used_by_pilot}
use Rattle.market.specs.Method.{Held, Slot, by_tariff, old_free, new_free, hours_of}
use Rattle.market.specs.Steps.{SameExcept, SameBeside, here, same, Added, Raised, Late, late_of_pair, late_of_pilot, to_do, measure}
use Rattle.grid.proofs.Sums.{sum_le, sum_same, sum_one}
use Rattle.market.proofs.Adding.{elsewhere, old_beside_tariff, tariff_beside_old, used_by_pilot_more, used_by_pilot-same}
use Rattle.market.proofs.Steps.{raised_used}

-- The late hours of a grower with a pilot.
module _ (t : Ticket) (price : ℕ → ℕ) (i j : ℕ) where
  pub late_yes : (held : Held) → 18 * t.tariff_pay i j < price j → late_of_pair t price held i j ≡ held by_tariff i j + held old_free i j
  late_yes held h = rw (lt-ltb (18 * t.tariff_pay i j) (price j) h)

  pub late_not : (held : Held) → price j ≤ 18 * t.tariff_pay i j → late_of_pair t price held i j ≡ held old_free i j
  late_not held h = rw (le-ltb (18 * t.tariff_pay i j) (price j) h) (omega arith)

  late_same : (held held' : Held) → held' by_tariff i j ≡ held by_tariff i j → held' old_free i j ≡ held old_free i j →
      late_of_pair t price held' i j ≡ late_of_pair t price held i j
  late_same held held' e f = rw (e, f)

  late_le : (held : Held) → late_of_pair t price held i j ≤ hours_of held Tariff i j + hours_of held Free i j
  late_le held = elim (dec_lt (18 * t.tariff_pay i j) (price j)) [
    | yes p ↦ omega (arith, late_yes held p)
    | no p ↦ omega (arith, late_not held (omega arith))
  ]

-- At the most, all hours of a pilot are late.
pub lates_le : (t : Ticket) (price : ℕ → ℕ) (held : Held) (j : ℕ) → late_of_pilot t price held j ≤ used_by_pilot t (hours_of held) j
lates_le t price held j = sum_le _ _ t.growers (λ i hi. late_le t price i j held)

-- Hours that are not late leave the late hours as they are, and late ones add to them.
module _ (t : Ticket) (price : ℕ → ℕ) {held held' : Held} where
  late_kept : {q : Slot} {i j k l : ℕ} → ¬ Late t price q i j → SameExcept held held' q i j by_tariff k l →
      SameExcept held held' q i j old_free k l → late_of_pair t price held' k l ≡ late_of_pair t price held k l
  late_kept {i} {j} now here o =
      omega (arith, late_not t price i j held (omega arith), late_not t price i j held' (omega arith), old_beside_tariff o)
  late_kept now (same e) here = absurd (now tt)
  late_kept {k} {l} now (same e) (same f) = late_same t price k l held held' e f

  late_more : (q : Slot) {i j x : ℕ} → Late t price q i j → Added held held' q i j x →
      late_of_pair t price held' i j ≡ late_of_pair t price held i j + x
  late_more by_tariff {i} {j} is plus = omega (
    arith,
    late_yes t price i j held is,
    late_yes t price i j held' is,
    plus.there,
    old_beside_tariff (plus.rest old_free i j),
  )
  late_more old_free {i} {j} is plus = rw (tariff_beside_old (plus.rest by_tariff i j)) (omega (arith, plus.there))
  late_more new_free is plus = absurd is

module _ (t : Ticket) (price : ℕ → ℕ) {held held' : Held} {q : Slot} {i j x : ℕ} (plus : Added held held' q i j x) where
  lates_kept : ¬ Late t price q i j → (l : ℕ) → late_of_pilot t price held' l ≡ late_of_pilot t price held l
  lates_kept now l = sum_same _ _ t.growers (λ k hk. late_kept t price now (plus.rest by_tariff k l) (plus.rest old_free k l))

  late_beside : (k l : ℕ) → (k ≡ i → l ≡ j → ⊥) → late_of_pair t price held' k l ≡ late_of_pair t price held k l
  late_beside k l ne = late_same t price k l held held'
      (elsewhere (plus.rest by_tariff k l) (λ _ e f. ne e f)) (elsewhere (plus.rest old_free k l) (λ _ e f. ne e f))

  lates_more : Late t price q i j → i < t.growers → late_of_pilot t price held' j ≡ late_of_pilot t price held j + x
  lates_more is hi = omega (
    arith,
    late_more t price q is plus,
    sum_one (λ k. late_of_pair t price held k j) (λ k. late_of_pair t price held' k j) t.growers i hi
        (λ k hk ne. late_beside k j (λ e _. ne e)),
  )

  lates_same : (l : ℕ) → l ≢ j → late_of_pilot t price held' l ≡ late_of_pilot t price held l
  lates_same l ne = sum_same _ _ t.growers (λ k hk. late_beside k l (λ _. ne))

-- Where one pilot has less to do, and the others as much as before, less is left.
falls : (t : Ticket) (price price' : ℕ → ℕ) (held held' : Held) (top j : ℕ) → j < t.pilots →
    ((l : ℕ) → l < t.pilots → l ≢ j → to_do t price' held' top l ≡ to_do t price held top l) →
    to_do t price' held' top j < to_do t price held top j → measure t price' held' top < measure t price held top
falls t price price' held held' top j hj e h =
    omega (arith, sum_one (to_do t price held top) (to_do t price' held' top) t.pilots j hj e)

pub add_falls : (t : Ticket) (price : ℕ → ℕ) {held held' : Held} {q : Slot} {i j x : ℕ} (top : ℕ) → i < t.growers → j < t.pilots →
    0 < x → ¬ Late t price q i j → used_by_pilot t (hours_of held) j + x ≤ t.pilot_hours j → Added held held' q i j x →
    measure t price held' top < measure t price held top
add_falls t price {held} {held'} {j} top hi hj pos now fits plus = falls t price price held held' top j hj
    (λ l hl ne. omega (arith, lates_kept t price plus now l, used_by_pilot-same t plus l ne))
    (omega (arith, lates_kept t price plus now j, used_by_pilot_more t plus hi))

pub move_falls : (t : Ticket) (price : ℕ → ℕ) {held held' held'' : Held} {q p : Slot} {i k j x : ℕ} (top : ℕ) →
    i < t.growers → k < t.growers → j < t.pilots → 0 < x → ¬ Late t price q i j → Late t price p k j →
    Added held held' q i j x → Added held'' held' p k j x → measure t price held'' top < measure t price held top
move_falls t price {held} {held''} {j} top hi hk hj pos now is plus minus = falls t price price held held'' top j hj
    (λ l hl ne. omega (
      arith,
      lates_kept t price plus now l,
      lates_same t price minus l ne,
      used_by_pilot-same t plus l ne,
      used_by_pilot-same t minus l ne,
    ))
    (omega (arith, lates_kept t price plus now j, lates_more t price minus is hk, used_by_pilot_more t plus hi, used_by_pilot_more t minus hk))

pub raise_falls : {t : Ticket} {price price' : ℕ → ℕ} {held held' : Held} {j : ℕ} (top : ℕ) → j < t.pilots → price j < top →
    used_by_pilot t (hours_of held) j ≡ t.pilot_hours j → Raised t price price' held held' j →
    measure t price' held' top < measure t price held top
raise_falls {t} {price} {price'} {held} {held'} {j} top hj room full up = falls t price price' held held' top j hj
    (λ l hl ne. beside (up.rest l hl) ne (raised_used up l hl))
    (rw one_less (omega (arith, raised_used up j hj, lates_le t price' held' j)))
  where
    beside : {l : ℕ} → SameBeside t price price' held held' j l → l ≢ j →
        used_by_pilot t (hours_of held') l ≡ used_by_pilot t (hours_of held) l → to_do t price' held' top l ≡ to_do t price held top l
    beside here ne e = absurd (ne refl)
    beside {l} (same at f) ne e = rw at (omega (
      arith,
      sum_same (λ i. late_of_pair t price held' i l) (λ i. late_of_pair t price held i l) t.growers
          (λ i hi. late_same t price i l held held' (f by_tariff i hi) (f old_free i hi)),
    ))

    one_less : top - price j ≡ suc (top - price' j)
    one_less = omega (arith, up.there.risen)
