-- Parties and windows, one after another.
-- Assumes nothing.
use Prim.Native.Nat.{ℕ, zero, suc, ◌+◌, ◌-◌, ◌≤◌, ◌<◌}
use mathlib.Core.Bool.{Bool, false, ◌&&◌, ◌||◌}
use mathlib.Core.Logic.{⊎_elim}
use mathlib.Core.Path.{◌≡◌, refl, ◌∙◌}
use mathlib.Core.List.{List, []}
use native.Mathlib.Nat.{zero-add}
use native.Mathlib.Omega.{arith}
use native.Mathlib.Numerals.{add-one}
use borrow.Author.Tests.{le-leb, lt-leb}
use lib.Dec.{leb}
use lib.ListN.{get_or, set, length}
use lib.Seq.{get_or-set_same, get_or-set_other}
use Rattle.grid.specs.Every.{every}
use Rattle.grid.proofs.Cases.{eq_or_ne}
use Rattle.std.specs.Prelude.{Result, Ok, Err, IsErrAnd}
use Rattle.checks.specs.declared.refusals.Refusal.{Refusal}
use Rattle.checks.specs.Refusals.{Checked, must, first}
use Rattle.week.proofs.WeekLaws.{covered_none, covered_more, hours-same}
use Rattle.week.specs.Week.{stretch, in_week, has, covered, hours_with, Marks}
use Rattle.window_lists.specs.Windows.{next_place, party_place, window_at, first_windows, windows_of, common_hours, WeeksOf}
use Rattle.window_lists.specs.WindowRefusals.{closed_before, window_passes, party_refusal, parties_refusal, windows_refusal}

pub place_none : (list : List ℕ) → 0 ≡ party_place list 0
unfolding party_place
place_none list = refl

pub place_more : (list : List ℕ) (k place : ℕ) → place ≡ party_place list k → next_place list place ≡ party_place list (k + 1)
unfolding party_place
place_more list k place e = rw (add-one k, e)

pub refusal_none : (list : List ℕ) → Ok tt ≡ parties_refusal list 0
unfolding parties_refusal
refusal_none list = refl

pub refusal_more : (list : List ℕ) (k place : ℕ) (why : Checked) → place ≡ party_place list k → why ≡ parties_refusal list k →
    first why (party_refusal list place) ≡ parties_refusal list (k + 1)
unfolding parties_refusal
refusal_more list k place why e f = rw (add-one k, e, f)

-- Where none of those before is refused.
pub refusal_next : (list : List ℕ) (k place : ℕ) (why : Checked) → place ≡ party_place list k → Ok tt ≡ parties_refusal list k →
    why ≡ party_refusal list place → why ≡ parties_refusal list (k + 1)
refusal_next list k place why e f g = g ∙ refusal_more list k place (Ok tt) e f

-- What is refused of the first parties is refused of all.
refused_on : (list : List ℕ) (k more : ℕ) (why : Refusal) → Err why ≡ parties_refusal list k → Err why ≡ parties_refusal list (more + k)
unfolding parties_refusal
refused_on list k zero why e = rw (zero-add k) e
refused_on list k (suc more) why e =
    let n : suc more + k ≡ suc (more + k) = omega arith in rw (n, ← refused_on list k more why e)

pub refused : (list : List ℕ) (k parties place : ℕ) (why : Refusal) → k < parties → place ≡ party_place list k →
    Ok tt ≡ parties_refusal list k → Err why ≡ party_refusal list place → Err why ≡ windows_refusal list parties
refused list k parties place why h e f g =
    let all : Err why ≡ parties_refusal list (parties - (k + 1) + (k + 1)) =
    refused_on list (k + 1) (parties - (k + 1)) why (refusal_next list k place (Err why) e f g) in
    let n : parties - (k + 1) + (k + 1) ≡ parties = omega arith in
    let same : Err why ≡ parties_refusal list parties = rw n at all in
    rw (← same)

-- What `?` hands on is what was refused.
pub met_is : {A : Type 0} (r : Result A Refusal) (why : Refusal) → IsErrAnd r (λ v. v ≡ why) → r ≡ Err why
met_is (Ok a) why h = absurd h
met_is (Err v) why h = rw h

pub closed_more : (list : List ℕ) (place w : ℕ) → (window_at list place w).closing ≡ closed_before list place (w + 1)
closed_more list place w = rw (add-one w)

pub window_test : (list : List ℕ) (place w first closing closed : ℕ) (t : Bool) → first ≡ (window_at list place w).first →
    closing ≡ (window_at list place w).closing → closed ≡ closed_before list place w → t ≡ in_week (stretch first closing) →
    (t && leb closed first) ≡ window_passes list place w
window_test list place w first closing closed t a b c d = rw (d, a, b, c)

-- The refusal of a party, by its tests in their order.
module _ (list : List ℕ) (place : ℕ) where
  pub too_many : 8 < get_or list place 0 → Err Refusal.NotWindows ≡ party_refusal list place
  too_many h = rw (lt-leb (get_or list place 0) 8 h)

  pub ends_early : get_or list place 0 ≤ 8 → length list < next_place list place → Err Refusal.NotWindows ≡ party_refusal list place
  ends_early h l = rw (le-leb (get_or list place 0) 8 h, lt-leb (next_place list place) (length list) l)

  pub only_windows : get_or list place 0 ≤ 8 → next_place list place ≤ length list →
      must (every (window_passes list place) (get_or list place 0)) Refusal.BadWindow ≡ party_refusal list place
  only_windows h l = rw (le-leb (get_or list place 0) 8 h, le-leb (next_place list place) (length list) l)

-- The hours of a party's windows, one window after another.
pub marks_none : (list : List ℕ) (place : ℕ) (row : List Bool) → Marks (λ h. false) row → Marks (covered (first_windows list place 0)) row
unfolding first_windows
marks_none list place row m h l = m h l ∙ covered_none h

pub marks_more : (list : List ℕ) (place w first closing : ℕ) (row more : List Bool) → first ≡ (window_at list place w).first →
    closing ≡ (window_at list place w).closing → Marks (covered (first_windows list place w)) row →
    Marks (λ h. get_or row h false || has (stretch first closing) h) more → Marks (covered (first_windows list place (w + 1))) more
unfolding first_windows
marks_more list place w first closing row more a b m n h l =
    n h l ∙ rw (add-one w, a, b, m h l) (covered_more (first_windows list place w) (window_at list place w) h)

pub marks_all : (list : List ℕ) (party place w : ℕ) (row : List Bool) → place ≡ party_place list party → w ≡ get_or list place 0 →
    Marks (covered (first_windows list place w)) row → Marks (covered (windows_of list party)) row
marks_all list party place w row e f m = rw (f, e) at m

-- Those of one party after another.
pub weeks_more : (list : List ℕ) (party k : ℕ) (rows : List (List Bool)) (row : List Bool) → length rows ≡ 16 → k < 16 →
    WeeksOf list party k rows → Marks (covered (windows_of list (party + k))) row → WeeksOf list party (k + 1) (set rows k row)
weeks_more list party k rows row long few w m q l = ⊎_elim
    (λ e. rw (e, get_or-set_same rows k row [] (omega (arith, long))) m)
    (λ ne. rw (get_or-set_other rows k q row [] ne) (w q (omega (arith, ne))))
    (eq_or_ne q k)

-- Hours that are marked for a grower and for a pilot are the hours that the two have in common.
pub common_of : (list : List ℕ) (n m rows columns : ℕ) (growers pilots : List (List Bool)) (i j count : ℕ) → m ≡ n →
    WeeksOf list 0 rows growers → WeeksOf list m columns pilots → i < rows → j < columns →
    count ≡ hours_with (λ h. get_or (get_or growers i []) h false && get_or (get_or pilots j []) h false) → count ≡ common_hours list n i j
common_of list n m rows columns growers pilots i j count f g p hi hj e =
    e
    ∙ hours-same (λ h. get_or (get_or growers i []) h false && get_or (get_or pilots j []) h false)
    (λ h. covered (windows_of list i) h && covered (windows_of list (n + j)) h) (λ h l. rw (g i hi h l, p j hj h l, zero-add i, f))
