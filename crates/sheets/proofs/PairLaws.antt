-- The line of a pair, and the lines of the first pairs: written pair by pair, how long they are, and what they depend on.
-- Assumes nothing.
use mathlib.Core.Path.{◌≡◌, refl, sym, ap, ◌∙◌}
use mathlib.Core.Bool.{Bool, true, false, cond, ◌&&◌}
use mathlib.Core.List.{List, [], ◌++◌}
use Prim.Native.Nat.{ℕ, zero, suc, ◌+◌, ◌*◌, ◌-◌, ◌/◌, ◌%◌, ◌≤◌, ◌<◌}
use native.Mathlib.Numerals.{add-one}
use native.Mathlib.Omega.{arith}
use borrow.Author.Tests.{eq-eqb, ne_eqb}
use lib.Dec.{eqb}
use lib.ListN.{length, get_or, length-append}
use Rattle.grid.specs.Grid.{Grid, at}
use Rattle.grid.proofs.Places.{Inside, inside}
use Rattle.ascii.specs.Writing.{Wrote}
use Rattle.ascii.specs.Lines.{line}
use Rattle.sheets.specs.Sheet.{grower_share, line_if_hours, pair_lines}
use Rattle.sheets.specs.Squares.{numbers_in, line_in, Printable}
use Rattle.ascii.proofs.PageWriting.{wrote_nothing, wrote_then, wrote_same}
use Rattle.ascii.proofs.LineLaws.{line_short}

module _ (hours gain pay : ℕ) where
  pub share_without_hours : hours ≡ 0 → 0 ≡ grower_share hours gain pay
  share_without_hours e = rw (eq-eqb hours 0 e)

  pub share_some : (hours ≡ 0 → ⊥) → gain - pay ≡ grower_share hours gain pay
  share_some n = rw (ne_eqb hours 0 n)

pub neither : (t f : ℕ) → t ≡ 0 → eqb f 0 ≡ (eqb t 0 && eqb f 0)
neither t f e = rw (eq-eqb t 0 e)

pub not_neither : (t f : ℕ) → (t ≡ 0 → ⊥) → false ≡ (eqb t 0 && eqb f 0)
not_neither t f n = rw (ne_eqb t 0 n)

module _ (t f : ℕ) (numbers : List ℕ) (none : Bool) (e : none ≡ (eqb t 0 && eqb f 0)) where
  pub wrote_no_line : (page : List ℕ) (at : ℕ) → none ≡ true → Wrote page page at at (line_if_hours t f numbers)
  wrote_no_line page at h = rw (sym e ∙ h) (wrote_nothing page at)

  pub wrote_line : {l l₁ : List ℕ} {at end : ℕ} → none ≡ false → Wrote l l₁ at end (line numbers) → Wrote l l₁ at end
      (line_if_hours t f numbers)
  wrote_line h w = rw (sym e ∙ h) w

pub if_hours_short : (t f : ℕ) (numbers : List ℕ) → length (line_if_hours t f numbers) ≤ 4 * length numbers
if_hours_short t f numbers = go (eqb t 0 && eqb f 0)
  where
    go : (b : Bool) → length (cond b [] (line numbers)) ≤ 4 * length numbers
    go true = omega arith
    go false = line_short numbers

pub no_pairs : (f : ℕ → ℕ → List ℕ) (m : ℕ) (page : List ℕ) (at : ℕ) → Wrote page page at at (pair_lines f m 0)
unfolding pair_lines
no_pairs f m page at = wrote_nothing page at

pub one-pair_more : (f : ℕ → ℕ → List ℕ) (m p : ℕ) → pair_lines f m (p + 1) ≡ pair_lines f m p ++ f (p / m) (p % m)
unfolding pair_lines
one-pair_more f m p = rw (add-one p)

pub pairs_turn : (f : ℕ → ℕ → List ℕ) (m p : ℕ) (piece : List ℕ) {l l₁ l₂ : List ℕ} {from at end : ℕ} →
    Wrote l l₁ from at (pair_lines f m p) → piece ≡ f (p / m) (p % m) → Wrote l₁ l₂ at end piece → Wrote l l₂ from end
    (pair_lines f m (p + 1))
pairs_turn f m p piece w e v = wrote_same _ (ap (λ (x : List ℕ). pair_lines f m p ++ x) e ∙ sym (one-pair_more f m p)) (wrote_then w v)

pub pairs_short : (f : ℕ → ℕ → List ℕ) (m k : ℕ) → ((i j : ℕ) → length (f i j) ≤ 32) → length (pair_lines f m k) ≤ 32 * k
unfolding pair_lines
pairs_short f m zero h = omega arith
pairs_short f m (suc k) h =
    omega (arith, length-append (pair_lines f m k) (f (k / m) (k % m)), pairs_short f m k h, h (k / m) (k % m))

-- room for one line more
pub pair_room : (f : ℕ → ℕ → List ℕ) (m k : ℕ) (room : ℕ) {l l₁ : List ℕ} {from at : ℕ} → ((i j : ℕ) → length (f i j) ≤ 32) → k < 256 →
    from + 8192 ≤ room → Wrote l l₁ from at (pair_lines f m k) → at + 32 ≤ room
pair_room f m k room h l r w = omega (arith, pairs_short f m k h, w.ends)

-- A turn, where the quantities stand in squares.
module _ (tariff_hours tariff_gain tariff_pay free_deal_hours joint_gain pay : Grid) where
  abbrev numbers_of : ℕ → ℕ → List ℕ
  numbers_of = numbers_in tariff_hours tariff_gain tariff_pay free_deal_hours joint_gain pay

  abbrev line_of : ℕ → ℕ → List ℕ
  line_of = line_in tariff_hours tariff_gain tariff_pay free_deal_hours joint_gain pay

  pub line_in_short : (i j : ℕ) → length (line_of i j) ≤ 32
  line_in_short i j = if_hours_short (at tariff_hours i j) (at free_deal_hours i j) (numbers_of i j)

  pub turn_fits : (n m p room : ℕ) (numbers : List ℕ) {l l₁ : List ℕ} {from at : ℕ} → Inside n m p → Printable n m numbers_of →
      numbers ≡ numbers_of (p / m) (p % m) → p < 256 → from + 8192 ≤ room → Wrote l l₁ from at (pair_lines line_of m p) →
      (length numbers ≡ 8) × ((k : ℕ) → get_or numbers k 0 ≤ 500) × (at + 32 ≤ room)
  turn_fits n m p room numbers i h e few r w = (
    ap length e,
    λ k. rw e (h (p / m) (p % m) i.grower i.pilot k),
    pair_room line_of m p room line_in_short few r w,
  )

  pub turn_writes : (m p : ℕ) (numbers : List ℕ) {l l₁ l₂ : List ℕ} {from at end : ℕ} → numbers ≡ numbers_of (p / m) (p % m) →
      Wrote l l₁ from at (pair_lines line_of m p) → Wrote l₁ l₂ at end (line_if_hours (get_or numbers 2 0) (get_or numbers 5 0) numbers) →
      Wrote l l₂ from end (pair_lines line_of m (p + 1))
  turn_writes m p numbers e w v = pairs_turn line_of m p _ w (rw e) v

-- the lines of the pairs within the market decide
pub same_lines : (f g : ℕ → ℕ → List ℕ) (n m : ℕ) → ((i j : ℕ) → i < n → j < m → f i j ≡ g i j) → pair_lines f m (n * m) ≡ pair_lines g m
    (n * m)
unfolding pair_lines
same_lines f g n m h = go (n * m) (omega arith)
  where
    go : (k : ℕ) → k ≤ n * m → pair_lines f m k ≡ pair_lines g m k
    go zero l = refl
    go (suc k) l =
        let w = inside n m k (omega arith) in rw (go k (omega arith), h (k / m) (k % m) w.grower w.pilot)
