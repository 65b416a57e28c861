-- The list in which everybody has the whole week: it is not refused, and any two have all hours in common.
-- Assumes nothing.
use Prim.Native.Nat.{ℕ, zero, suc, ◌+◌, ◌*◌, ◌≤◌, ◌<◌}
use mathlib.Core.Bool.{true, ◌&&◌}
use mathlib.Core.Path.{◌≡◌, refl}
use mathlib.Core.List.{List, [], ◌∷◌}
use native.Mathlib.Omega.{arith}
use borrow.Author.Tests.{le-leb, eq-eqb}
use lib.ListN.{get_or, length}
use Rattle.std.specs.Prelude.{Ok}
use Rattle.grid.specs.Every.{every}
use Rattle.week.specs.Week.{stretch, covered}
use Rattle.week.proofs.WeekLaws.{has_inside, all_hours}
use Rattle.window_lists.specs.Windows.{party_place, first_windows, windows_of, common_hours, whole_week}
use Rattle.window_lists.specs.WindowRefusals.{window_passes, party_refusal, parties_refusal, windows_refusal}

-- Three numbers for each party.
whole_long : (k : ℕ) → length (whole_week k) ≡ 3 * k
unfolding whole_week
whole_long zero = refl
whole_long (suc k) = omega (arith, whole_long k)

pub record Three (list : List ℕ) (place : ℕ) : Type 0 where
  pub count : get_or list place 0 ≡ 1
  pub first : get_or list (place + 1 + 2 * 0) 0 ≡ 0
  pub closing : get_or list (place + 2 + 2 * 0) 0 ≡ 168

later : (l : List ℕ) (p q x : ℕ) → q ≡ suc (suc (suc p)) → get_or l p 0 ≡ x → get_or (1 ∷ 0 ∷ 168 ∷ l) q 0 ≡ x
later l p q x e f = rw e f

whole_at : (k party place : ℕ) → party < k → place ≡ 3 * party → Three (whole_week k) place
unfolding whole_week
whole_at zero party place h e = absurd (omega arith)
whole_at (suc k) zero place h e = rw e (record { count = refl; first = refl; closing = refl })
whole_at (suc k) (suc party) place h e =
    let w = whole_at k party (3 * party) (omega arith) refl in
    record {
      count = later (whole_week k) (3 * party) place 1 (omega arith) w.count;
      first = later (whole_week k) (3 * party + 1 + 2 * 0) (place + 1 + 2 * 0) 0 (omega arith) w.first;
      closing = later (whole_week k) (3 * party + 2 + 2 * 0) (place + 2 + 2 * 0) 168 (omega arith) w.closing;
    }

module _ (k : ℕ) where
  abbrev list : List ℕ
  list = whole_week k

  place_of : (party : ℕ) → party ≤ k → party_place list party ≡ 3 * party
  unfolding party_place
  place_of zero h = refl
  place_of (suc party) h =
      let e = place_of party (omega arith) in rw e (omega (arith, (whole_at k party (3 * party) (omega arith) refl).count))

  module _ (party : ℕ) (h : party < k) where
    three : Three list (3 * party)
    three = whole_at k party (3 * party) h refl

    window_passes_lem : window_passes list (3 * party) 0 ≡ true
    window_passes_lem = rw (three.first, three.closing)

    party_passes : party_refusal list (3 * party) ≡ Ok tt
    unfolding every
    party_passes =
        rw (three.count, window_passes_lem, le-leb (3 * party + 1 + 2 * 1) (length list) (omega (arith, whole_long k)))

    windows_are : windows_of list party ≡ stretch 0 168 ∷ []
    unfolding first_windows
    windows_are = rw (place_of party (omega arith), three.count, three.first, three.closing)

    all_covered : (h : ℕ) → h < 168 → covered (windows_of list party) h ≡ true
    unfolding covered
    all_covered h l = rw windows_are (rw (has_inside 0 168 h (omega arith) l))

  none_refused : (party : ℕ) → party ≤ k → parties_refusal list party ≡ Ok tt
  unfolding parties_refusal
  none_refused zero h = refl
  none_refused (suc party) h =
      rw (none_refused party (omega arith), place_of party (omega arith)) (party_passes party (omega arith))

  pub whole_passes : windows_refusal list k ≡ Ok tt
  whole_passes =
      rw (none_refused k (omega arith), place_of k (omega arith), eq-eqb (3 * k) (length list) (omega (arith, whole_long k)))

  pub whole_common : (n i j : ℕ) → i < k → n + j < k → common_hours list n i j ≡ 168
  whole_common n i j hi hj =
      all_hours (λ h. covered (windows_of list i) h && covered (windows_of list (n + j)) h)
      (λ h l. rw (all_covered i hi h l, all_covered (n + j) hj h l))
