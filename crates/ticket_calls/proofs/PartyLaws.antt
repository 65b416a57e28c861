-- A party that is in a ticket's list: its hours and its pairs stand in the list, after growers and pilots.
-- Assumes nothing.
use Prim.Native.Nat.{ℕ, ◌+◌, ◌*◌, ◌≤◌, ◌<◌}
use mathlib.Core.Bool.{true, ◌&&◌}
use mathlib.Core.Path.{◌≡◌}
use mathlib.Core.List.{List}
use native.Mathlib.Omega.{arith}
use borrow.Author.Tests.{leb-true, ltb-true}
use lib.Dec.{leb}
use Rattle.numbers.proofs.Products.{prod_small}
use Rattle.grid.proofs.EveryLaws.{both_hold}
use Rattle.reader.proofs.Facts.{pair-below}
use Rattle.tables.specs.View.{growers_of, pilots_of}
use Rattle.ticket_calls.specs.declared.Party.{Party}
use Rattle.ticket_calls.specs.declared.Party.TheVariants.{Grower, Pilot}
use Rattle.ticket_calls.specs.Calls.{is_one, hours_place, partners, pair_place, is_in}

-- grower and pilot of a party's pair with partner k
abbrev pub grower_with : Party → ℕ → ℕ
grower_with (Grower i) k = i
grower_with (Pilot j) k = k

abbrev pub pilot_with : Party → ℕ → ℕ
pilot_with (Grower i) k = k
pilot_with (Pilot j) k = j

-- what is known of a party that is in the list
pub record In (p : Party) (l : List ℕ) : Type 0 where
  pub growers : growers_of l ≤ 16
  pub pilots : pilots_of l ≤ 16
  pub one : is_one p (growers_of l) (pilots_of l) ≡ true

pub is_in_lem : (p : Party) (l : List ℕ) → is_in p l ≡ true → In p l
is_in_lem p l e =
    let t = both_hold (leb (growers_of l) 16 && leb (pilots_of l) 16) (is_one p (growers_of l) (pilots_of l)) e in
    let u = both_hold (leb (growers_of l) 16) (leb (pilots_of l) 16) t.0 in
    record { growers = leb-true _ _ u.0; pilots = leb-true _ _ u.1; one = t.1 }

-- where a pair of it stands: that of grower and pilot
pub pair-with : (p : Party) (n m k : ℕ) → is_one p n m ≡ true → k < partners p n m →
    (grower_with p k < n) × (pilot_with p k < m) × (pair_place p n m k ≡ 3 + n + m + 5 * (grower_with p k * m + pilot_with p k))
pair-with (Grower i) n m k e h = (ltb-true i n e, h, omega arith)
pair-with (Pilot j) n m k e h = (h, ltb-true j m e, omega arith)

-- all five numbers of it
pub pair_inside : (p : Party) (l : List ℕ) (k : ℕ) → In p l → k < partners p (growers_of l) (pilots_of l) →
    pair_place p (growers_of l) (pilots_of l) k + 4 < 1315
pair_inside p l k is h =
    let n = growers_of l in
    let m = pilots_of l in
    let w = pair-with p n m k is.one h in
    omega (
      arith,
      w.2,
      pair-below n m (grower_with p k) (pilot_with p k) w.0 w.1,
      prod_small n m is.growers is.pilots,
      is.growers,
      is.pilots,
    )

-- its hours: after the head, before the pairs
pub hours-with : (p : Party) (n m : ℕ) → is_one p n m ≡ true → (3 ≤ hours_place p n) × (hours_place p n < 3 + n + m)
hours-with (Grower i) n m e = let h = ltb-true i n e in (omega arith, omega arith)
hours-with (Pilot j) n m e = let h = ltb-true j m e in (omega arith, omega arith)
