-- The hours of a week, and which of them some stretches of hours cover, for any list of stretches.
-- Assumes nothing.
use Rattle.std.specs.Prelude.{ℕ, ◌<◌, Bool, false, ◌&&◌, ◌||◌, List, [], ◌∷◌, ◌≡◌, leb, ltb, get_or}
use Rattle.grid.specs.Pick.{pick}
use Rattle.grid.specs.Sum.{sum}

-- They are counted 0 to 167.
abbrev pub week_hours : ℕ
week_hours = 168

-- A stretch of hours, such as a window: from its first hour up to its closing hour, which itself is outside.
pub record Stretch : Type 0 where
  pub first : ℕ
  pub closing : ℕ

abbrev pub stretch : ℕ → ℕ → Stretch
stretch first closing = record { first = first; closing = closing }

-- Whether it has any hours, and none past the week.
abbrev pub in_week : Stretch → Bool
in_week s = ltb s.first s.closing && leb s.closing week_hours

-- Whether an hour lies in it, and whether it lies in one of several.
abbrev pub has : Stretch → ℕ → Bool
has s h = leb s.first h && ltb h s.closing

unfoldable pub covered : List Stretch → ℕ → Bool
covered [] h = false
covered (s ∷ ss) h = has s h || covered ss h

-- How many hours of the week pass a test.
abbrev pub hours_with : (ℕ → Bool) → ℕ
hours_with test = sum (λ h. pick (test h) 1 0) week_hours

-- A row says of each hour of the week whether it passes a test.
abbrev pub Marks : (ℕ → Bool) → List Bool → Type 0
Marks test row = (h : ℕ) → h < week_hours → get_or row h false ≡ test h
