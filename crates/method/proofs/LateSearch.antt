-- The search for late hours of a pilot, with one grower after another.
-- Assumes nothing.
use Prim.Native.Nat.{ℕ, ◌+◌, ◌*◌, ◌≤◌, ◌<◌}
use mathlib.Core.Path.{◌≡◌, refl}
use mathlib.Core.Logic.{⊎_elim}
use mathlib.Core.Bool.{cond}
use mathlib.Core.List.{List}
use native.Mathlib.Omega.{arith}
use lib.Dec.{ltb}
use borrow.Author.Tests.{lt-ltb, le-ltb}
use Rattle.std.specs.Prelude.{Option, None, Some}
use Rattle.grid.proofs.Cases.{by_index, lt_or_le}
use Rattle.market.specs.declared.Deal.{Deal}
use Rattle.market.specs.declared.Deal.TheVariants.{Tariff, Free}
use Rattle.market.specs.Market.{Ticket}
use Rattle.market.specs.Method.{by_tariff, old_free, new_free}
use Rattle.market.specs.Steps.{NoLateHour}
use Rattle.offers.specs.declared.Terms.{Terms}
use Rattle.offers.specs.declared.Agreed.{Agreed}
use Rattle.offers.specs.Late.{late_hours}
use Rattle.method.specs.View.{line, ticket, terms_at, agreed_at, held_in}
use Rattle.method.specs.LateHours.{HasLate}

-- what is known of the late hours of one pair
abbrev LateHere : ℕ → Terms → Agreed → Option (Deal × ℕ) → Type 0
LateHere price terms agreed None = (agreed.old_free ≡ 0) × (18 * terms.tariff_pay < price → agreed.by_tariff ≡ 0)
LateHere price terms agreed (Some (Tariff, x)) = (18 * terms.tariff_pay < price) × (0 < x) × (agreed.by_tariff ≡ x)
LateHere price terms agreed (Some (Free, x)) = (0 < x) × (agreed.old_free ≡ x)

module _ (price : ℕ) (terms : Terms) (agreed : Agreed) where
  late_tariff : agreed.old_free ≡ 0 → 0 < agreed.by_tariff → LateHere price terms agreed
      (cond (ltb (18 * terms.tariff_pay) price) (Some (Tariff, agreed.by_tariff)) None)
  late_tariff none some =
      ⊎_elim (λ less. rw (lt-ltb (18 * terms.tariff_pay) price less) (less, some, refl))
      (λ more. rw (le-ltb (18 * terms.tariff_pay) price more) (none, λ h. absurd (omega arith)))
      (lt_or_le (18 * terms.tariff_pay) price)

  late_hours_lem : LateHere price terms agreed (late_hours price terms agreed)
  late_hours_lem =
      ⊎_elim (λ old. rw (lt-ltb 0 agreed.old_free old) (old, refl))
      (λ none. rw (le-ltb 0 agreed.old_free none)
      (⊎_elim (λ some. rw (lt-ltb 0 agreed.by_tariff some) (late_tariff (omega arith) some))
      (λ no. rw (le-ltb 0 agreed.by_tariff no) (omega arith, λ _. omega arith))
      (lt_or_le 0 agreed.by_tariff)))
      (lt_or_le 0 agreed.old_free)

  late_found : (late : Option (Deal × ℕ)) → late ≡ late_hours price terms agreed → LateHere price terms agreed late
  late_found late e = rw e late_hours_lem

module _ (terms : List (List Terms)) (price : ℕ) (held : List (List Agreed)) (j : ℕ) where
  -- the late hours of pilot j with grower i, and what is known of them
  abbrev pub late_at : ℕ → Option (Deal × ℕ)
  late_at i = late_hours price (terms_at terms i j) (agreed_at held i j)

  abbrev LateAt : ℕ → Option (Deal × ℕ) → Type 0
  LateAt i = LateHere price (terms_at terms i j) (agreed_at held i j)

  -- pilot j has no late hours with the first k growers
  pub record NoneLate (k : ℕ) : Type 0 where
    pub none : (i : ℕ) → i < k → LateAt i None

  pub none_late_start : NoneLate 0
  none_late_start = record { none = λ i h. absurd (omega arith) }

  pub none_late_more : (k : ℕ) → None ≡ late_at k → NoneLate k → NoneLate (k + 1)
  none_late_more k here all = record {
    none = by_index (λ i. i < k + 1 → LateAt i None) k (λ _. late_found price (terms_at terms k j) (agreed_at held k j) None here)
        (λ i ne h. all.none i (omega arith));
  }

module _ (n m : ℕ) (grower_hours pilot_hours : List ℕ) (terms : List (List Terms)) (prices : List ℕ) (held : List (List Agreed)) (j : ℕ) where
  abbrev whole : Ticket
  whole = ticket n m grower_hours pilot_hours terms

  pub no_late_hour : (k : ℕ) → n ≤ k → NoneLate terms (line prices j) held j k → NoLateHour whole (line prices) (held_in held) j
  no_late_hour k h all by_tariff i hi late = (all.none i (omega arith)).1 late
  no_late_hour k h all old_free i hi late = (all.none i (omega arith)).0
  no_late_hour k h all new_free i hi late = absurd late

  has_late : (i : ℕ) (d : Deal) (x : ℕ) → i < n → LateAt terms (line prices j) held j i (Some (d, x)) →
      HasLate whole (line prices) (held_in held) d i j x
  has_late i Tariff x hi h = record { grower = hi; late = h.0; some = h.1; count = h.2 }
  has_late i Free x hi h = record { grower = hi; late = tt; some = h.0; count = h.1 }

  pub late_hours_found : (i : ℕ) (d : Deal) (x : ℕ) → i < n → Some (d, x) ≡ late_at terms (line prices j) held j i →
      HasLate whole (line prices) (held_in held) d i j x
  late_hours_found i d x hi e = has_late i d x hi (late_found (line prices j) (terms_at terms i j) (agreed_at held i j) (Some (d, x)) e)
