-- The refusal of a list of windows, if there is one: party by party 21, then 22; and 21 for numbers that are left.
-- Assumes nothing.
use Rattle.std.specs.Prelude.{ℕ, zero, suc, Bool, ◌&&◌, List, Ok, leb, eqb, get_or, length}
use Rattle.grid.specs.Every.{every}
use Rattle.checks.specs.declared.refusals.Refusal.{Refusal}
use Rattle.checks.specs.Refusals.{Checked, must, first}
use Rattle.week.specs.Week.{in_week}
use Rattle.window_lists.specs.Windows.{next_place, party_place, window_at}

-- A party has at most so many windows.
abbrev pub most_windows : ℕ
most_windows = 8

-- A window has hours of the week, and begins no earlier than the one before it closed.
abbrev pub closed_before : List ℕ → ℕ → ℕ → ℕ
closed_before list place zero = 0
closed_before list place (suc w) = (window_at list place w).closing

abbrev pub window_passes : List ℕ → ℕ → ℕ → Bool
window_passes list place w = in_week (window_at list place w) && leb (closed_before list place w) (window_at list place w).first

-- What is refused of the party whose count stands at this place: a list that ends before its last window, or too many of them; then a
-- window.
abbrev pub party_refusal : List ℕ → ℕ → Checked
party_refusal list place =
    first (must (leb (get_or list place 0) most_windows && leb (next_place list place) (length list)) Refusal.NotWindows)
    (must (every (window_passes list place) (get_or list place 0)) Refusal.BadWindow)

-- The first refusal among the first k parties.
unfoldable pub parties_refusal : List ℕ → ℕ → Checked
parties_refusal list zero = Ok tt
parties_refusal list (suc k) = first (parties_refusal list k) (party_refusal list (party_place list k))

-- That of the list of k parties: nothing is left after the last.
abbrev pub windows_refusal : List ℕ → ℕ → Checked
windows_refusal list k = first (parties_refusal list k) (must (eqb (party_place list k) (length list)) Refusal.NotWindows)
