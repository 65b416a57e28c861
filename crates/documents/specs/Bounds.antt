-- How large the counts of a document are, so that none of them wraps.
use Rattle.std.specs.Prelude.{ℕ, ◌*◌, ◌^◌, ◌<◌}
use Rattle.groups.specs.Groups.{groups}
use Rattle.documents.specs.declared.State.{State}

-- More places than any document has.
abbrev pub most_places : ℕ
most_places = 2147483648

-- The most pairs of two numbers of `groups` groups.
abbrev pub most_pairs : ℕ
most_pairs = 16383 * 16383

-- What a state is known to be where no fault was met: its numbers were read, so they have few groups.
pub record Known (s : State) : Type 0 where
  pub growers : s.growers < 128 ^ groups
  pub pilots : s.pilots < 128 ^ groups
