-- A list of everybody's windows: for each party, growers first, a count, and then two hours for each window. What it says of a party, and
-- the hours that a grower and a pilot have in common.
-- Assumes nothing.
use Rattle.std.specs.Prelude.{ℕ, zero, suc, ◌+◌, ◌*◌, ◌<◌, Bool, ◌&&◌, List, [], ◌∷◌, ◌++◌, get_or}
use Rattle.week.specs.Week.{Stretch, covered, hours_with, Marks}

-- Where the next party's count stands, if a party's stands at this place; and where that of party k stands, from 0.
abbrev pub next_place : List ℕ → ℕ → ℕ
next_place list place = place + 1 + 2 * get_or list place 0

unfoldable pub party_place : List ℕ → ℕ → ℕ
party_place list zero = 0
party_place list (suc k) = next_place list (party_place list k)

-- Window w of the party whose count stands at this place, and the first w of its windows.
abbrev pub window_at : List ℕ → ℕ → ℕ → Stretch
window_at list place w = record { first = get_or list (place + 1 + 2 * w) 0; closing = get_or list (place + 2 + 2 * w) 0 }

unfoldable pub first_windows : List ℕ → ℕ → ℕ → List Stretch
first_windows list place zero = []
first_windows list place (suc w) = first_windows list place w ++ (window_at list place w ∷ [])

-- All windows of party k.
abbrev pub windows_of : List ℕ → ℕ → List Stretch
windows_of list k = first_windows list (party_place list k) (get_or list (party_place list k) 0)

-- The hours that grower i and pilot j of n growers have in common: how many of the week lie in a window of each.
abbrev pub common_hours : List ℕ → ℕ → ℕ → ℕ → ℕ
common_hours list n i j = hours_with (λ h. covered (windows_of list i) h && covered (windows_of list (n + j)) h)

-- The list in which k parties have one window each, the whole week.
unfoldable pub whole_week : ℕ → List ℕ
whole_week zero = []
whole_week (suc k) = 1 ∷ 0 ∷ 168 ∷ whole_week k

-- More than the place of any party: there are fewer than 131,072, and each has fewer than 65,536 windows.
abbrev pub place_limit : ℕ
place_limit = 1099511627776

-- Rows say of each hour whether it lies in a window of `count` parties, one after another from this one on.
abbrev pub WeeksOf : List ℕ → ℕ → ℕ → List (List Bool) → Type 0
WeeksOf list party count rows = (k : ℕ) → k < count → Marks (covered (windows_of list (party + k))) (get_or rows k [])
