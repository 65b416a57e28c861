-- What was put stands in the page, if there was room for it.
-- Assumes nothing.
use mathlib.Core.Path.{◌≡◌, refl, sym, ◌∙◌}
use mathlib.Core.List.{List, ◌++◌, append_assoc}
use Prim.Native.Nat.{ℕ, ◌+◌, ◌-◌, ◌≤◌, ◌<◌}
use native.Mathlib.Omega.{arith}
use borrow.Author.Tests.{le-leb, lt-leb}
use lib.ListN.{length, take, drop}
use lib.Seq.{sets, sets-eq, drop-drop}
use Rattle.ascii.specs.Writing.{Wrote}
use Rattle.pages.specs.Put.{Put, put_at, after_put}

module _ (page : List ℕ) (at : ℕ) (bytes : List ℕ) where
  pub put_fits : at + length bytes ≤ length page → (after_put page at bytes ≡ at + length bytes) × (put_at page at bytes ≡ sets page at bytes)
  put_fits h = rw (le-leb (at + length bytes) (length page) h) (refl, refl)

  pub put_short : length page < at + length bytes → (after_put page at bytes ≡ at) × (put_at page at bytes ≡ page)
  put_short h = rw (lt-leb (at + length bytes) (length page) h) (refl, refl)

-- what a caller uses: with room, the bytes were written
module _ {page page' : List ℕ} {at end : ℕ} {bytes : List ℕ} (p : Put page page' at end bytes) where
  pub put_wrote : at + length bytes ≤ length page → Wrote page page' at end bytes
  put_wrote h = let f = put_fits page at bytes h in record { stored = p.stands ∙ f.1; ends = p.ends ∙ f.0 }

  -- the same where it is known how many there are at most
  pub put-within : (most : ℕ) → length bytes ≤ most → at + most ≤ length page → Wrote page page' at end bytes × (end ≤ at + most)
  put-within most short room = let w = put_wrote (omega arith) in (w, omega (arith, w.ends))

-- bytes between what stood before them and after them
pub copied : (page bytes : List ℕ) (at : ℕ) → at + length bytes ≤ length page →
    take at page ++ (bytes ++ drop (at + length bytes - at) (drop at page)) ≡ sets page at bytes
copied page bytes at h =
    let long : at + length bytes - at ≡ length bytes = omega arith in
    rw (long, drop-drop (length bytes) at page)
    (sym (append_assoc (take at page) bytes (drop (at + length bytes) page)) ∙ sym (sets-eq bytes page at h))
