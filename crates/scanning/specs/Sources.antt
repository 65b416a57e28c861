-- What every source keeps: what it leaves is an end of what it had. Bytes and lists do.
use Rattle.std.specs.Prelude.{◌≡◌, List, [], ◌∷◌, ℕ}
use Rattle.groups.specs.Groups.{Number, groups, bytes}
use Rattle.documents.specs.Walk.{Source, read_head}
use Rattle.grid.proofs.Cases.{never}
use Rattle.groups.proofs.Ends.{EndOf, end_self, end_next}
use Rattle.groups.proofs.GroupLaws.{read_rest}

abbrev pub Ending : Source → Type 0
Ending read = (a : List ℕ) (x : ℕ) (rest : List ℕ) → read a ≡ Number x rest → EndOf rest a

pub bytes-ending : Ending bytes
bytes-ending a x rest e = read_rest groups 0 a x rest e

pub head_ending : Ending read_head
head_ending [] x rest e = never cc
head_ending (y ∷ a) x rest e = let r : rest ≡ a = cc in rw r (end_next a a y (end_self a))
