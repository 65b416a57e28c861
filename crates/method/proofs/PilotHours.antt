-- The hours that pilots have free, from turn to turn.
-- Assumes nothing.
use Prim.Native.Nat.{ℕ, ◌+◌, ◌-◌, ◌≤◌, ◌<◌}
use mathlib.Core.Path.{◌≡◌, ◌∙◌}
use mathlib.Core.List.{List}
use native.Mathlib.Omega.{arith}
use lib.ListN.{set, length, length-set}
use lib.Seq.{get_or-set_same, get_or-set_other}
use Rattle.grid.proofs.Cases.{by_index}
use Rattle.grid.proofs.Sums.{sum_same, sum-zero}
use Rattle.market.specs.declared.Deal.TheVariants.{Tariff, Free}
use Rattle.market.specs.Market.{Ticket, used_by_pilot}
use Rattle.market.specs.Method.{Slot, by_tariff, old_free, new_free, hours_of}
use Rattle.market.specs.Steps.{Added}
use Rattle.market.proofs.Adding.{used_by_pilot_more, used_by_pilot-same}
use Rattle.offers.specs.declared.Agreed.{Agreed}
use Rattle.method.specs.View.{line, agreed_at, held_in, no_hours}
use Rattle.method.specs.State.{FreeHours}
use Rattle.method.proofs.HourChanges.{nothing_held}

-- at the start pilots have all their hours free
pub free-start : (t : Ticket) (held : List (List Agreed)) (free : List ℕ) → length free ≡ 16 →
    ((j : ℕ) → line free j ≡ t.pilot_hours j) → ((i j : ℕ) → agreed_at held i j ≡ no_hours) → FreeHours t held free
free-start t held free l all none = record {
  sixteen = l;
  each = λ j hj. omega (
    arith,
    all j,
    sum-zero t.growers,
    sum_same (λ i. hours_of (held_in held) Tariff i j + hours_of (held_in held) Free i j) (λ i. 0) t.growers (λ i hi. omega (
      arith,
      nothing_held held none by_tariff i j,
      nothing_held held none old_free i j,
      nothing_held held none new_free i j,
    )),
  );
}

module _ (t : Ticket) (held held' : List (List Agreed)) (free : List ℕ) (before : FreeHours t held free) where
  -- x hours of pilot j come into a deal
  pub free_added : (q : Slot) (i j x : ℕ) → i < t.growers → j < 16 → x ≤ line free j → Added (held_in held) (held_in held') q i j x →
      FreeHours t held' (set free j (line free j - x))
  free_added q i j x hi hj le put = record {
    sixteen = length-set free j (line free j - x) ∙ before.sixteen;
    each = by_index
        (λ l. l < t.pilots → used_by_pilot t (hours_of (held_in held')) l + line (set free j (line free j - x)) l ≡ t.pilot_hours l) j
        (λ h. omega (
          arith,
          get_or-set_same free j (line free j - x) 0 (omega (arith, before.sixteen)),
          used_by_pilot_more t put hi,
          before.each j h,
        ))
        (λ l ne h. omega (arith, get_or-set_other free j l (line free j - x) 0 ne, used_by_pilot-same t put l ne, before.each l h));
  }

  -- x hours of pilot j go from one deal to another
  pub free_moved : (between : List (List Agreed)) (q p : Slot) (i k j x : ℕ) → i < t.growers → k < t.growers →
      Added (held_in held) (held_in between) q i j x → Added (held_in held') (held_in between) p k j x → FreeHours t held' free
  free_moved between q p i k j x hi hk put taken = record {
    sixteen = before.sixteen;
    each = by_index (λ l. l < t.pilots → used_by_pilot t (hours_of (held_in held')) l + line free l ≡ t.pilot_hours l) j
        (λ h. omega (arith, used_by_pilot_more t put hi, used_by_pilot_more t taken hk, before.each j h))
        (λ l ne h. omega (arith, used_by_pilot-same t put l ne, used_by_pilot-same t taken l ne, before.each l h));
  }

  -- pilots hold as many as before
  pub free-kept : ((l : ℕ) → l < t.pilots → used_by_pilot t (hours_of (held_in held')) l ≡ used_by_pilot t (hours_of (held_in held)) l) →
      FreeHours t held' free
  free-kept same = record { sixteen = before.sixteen; each = λ l h. omega (arith, same l h, before.each l h) }
