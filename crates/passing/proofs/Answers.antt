-- The answer of the quick test of a ticket, put together from those of its parts.
use mathlib.Core.Path.{◌≡◌}
use mathlib.Core.Bool.{Bool, true, false, ◌&&◌, and-false}
use mathlib.Core.List.{List}
use Prim.Native.Nat.{ℕ, ◌+◌, ◌*◌}
use borrow.Author.Tests.{eq-eqb, ne_eqb}
use lib.Dec.{eqb}
use lib.ListN.{length, get_or}
use Rattle.passing.specs.Passes.{head_passes, hours_pass, pairs_pass, ticket_passes}

module _ (list : List ℕ) (kind n m : ℕ) (ek : kind ≡ get_or list 0 0) (en : n ≡ get_or list 1 0) (em : m ≡ get_or list 2 0) where
  -- other numbers than the first three ask for
  pub not_counted : (length list ≡ 3 + n + m + 5 * (n * m) → ⊥) → false ≡ ticket_passes list
  not_counted other = rw (← en, ← em, ne_eqb (length list) (3 + n + m + 5 * (n * m)) other)

  -- a fault among these
  pub head_fails : head_passes kind n m ≡ false → false ≡ ticket_passes list
  head_fails fails = rw (← ek, ← en, ← em, fails, and-false (eqb (length list) (3 + n + m + 5 * (n * m))))

  -- else hours and pairs decide
  pub head_stands : length list ≡ 3 + n + m + 5 * (n * m) → head_passes kind n m ≡ true → (hours pairs : Bool) →
      hours ≡ hours_pass list (n + m) → pairs ≡ pairs_pass list n m → (hours && pairs) ≡ ticket_passes list
  head_stands count stands hours pairs eh ep =
      rw (← ek, ← en, ← em, eq-eqb (length list) (3 + n + m + 5 * (n * m)) count, stands, eh, ep)
