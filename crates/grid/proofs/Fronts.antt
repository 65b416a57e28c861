-- Writing the front of a buffer, a number at each turn.
use mathlib.Core.Path.{◌≡◌, refl}
use mathlib.Core.List.{List}
use Prim.Native.Nat.{ℕ, ◌+◌, ◌<◌}
use native.Mathlib.Nat.{zero-add}
use native.Mathlib.Numerals.{add-one}
use native.Mathlib.Omega.{arith}
use lib.ListN.{length, get_or, set}
use lib.Seq.{paste-suc}
use Rattle.grid.specs.Front.{front}

pub front-none : (w o : List ℕ) → o ≡ front w 0 o
front-none w o = refl

pub front_more : (w o : List ℕ) (n : ℕ) → n < length w → n < length o → set (front w n o) n (get_or w n 0) ≡ front w (n + 1) o
front_more w o n hw ho = rw (add-one n) (simp (zero-add) at (paste-suc o 0 w n 0 (omega arith) hw))
