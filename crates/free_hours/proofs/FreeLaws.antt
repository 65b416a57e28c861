-- Hours taken off one after another, and what free hours mean.
-- Assumes nothing.
use Prim.Native.Nat.{ℕ, ◌+◌, ◌-◌, ◌<◌}
use mathlib.Core.Path.{◌≡◌, sym, ap₂, ◌∙◌}
use mathlib.Core.List.{List}
use native.Mathlib.Omega.{arith}
use lib.ListN.{get_or}
use Rattle.grid.specs.Sum.{sum}
use Rattle.grid.specs.Fill.{FilledRow}
use Rattle.grid.proofs.Sums.{sum-none, sum_more}
use Rattle.market.specs.Market.{Ticket, Settlement, used_by_grower, used_by_pilot, Fits}
use Rattle.market.specs.Same.{SameTicket, SameSettlement}
use Rattle.market.proofs.Same.{same-grower, same-pilot}
use Rattle.free_hours.specs.FreeHours.{AreFree}

-- What is left of h when two numbers are taken off.
pub left_both : (h x y a b v w : ℕ) → x ≡ a → y ≡ b → v ≡ h - x → w ≡ v - y → w ≡ h - (a + b)
left_both h x y a b v w p q e d = omega arith

-- The same when f 0, f 1 and so on are taken off.
module _ (f : ℕ → ℕ) (h : ℕ) where
  pub left_all : (v : ℕ) → v ≡ h → v ≡ h - sum f 0
  left_all v e = omega (arith, sum-none f)

  pub left_more : (k v w : ℕ) → v ≡ h - sum f k → w ≡ v - f k → w ≡ h - sum f (k + 1)
  left_more k v w e d = omega (arith, sum_more f k)

-- Free hours depend only on the growers and pilots that there are.
row_same : (val val' : ℕ → ℕ) (n n' : ℕ) (r : List ℕ) → n' ≡ n → ((i : ℕ) → i < n → val' i ≡ val i) → FilledRow val n r → FilledRow val' n' r
row_same val val' n n' r e same f = record {
  row = f.row;
  inner = λ i h. let hi : i < n = omega arith in f.inner i hi ∙ sym (same i hi);
  outer = λ i h. f.outer i (omega arith);
}

module _ {t t' : Ticket} {x x' : Settlement} (ticket : SameTicket t t') (settlement : SameSettlement t x x') where
  pub free-same : (growers pilots : List ℕ) → AreFree t x growers pilots → AreFree t' x' growers pilots
  free-same growers pilots f = record {
    growers_in = row_same _ _ _ _ growers ticket.growers
        (λ i hi. ap₂ ◌-◌ (ticket.grower_hours i hi) (same-grower ticket settlement i hi)) f.growers_in;
    pilots_in = row_same _ _ _ _ pilots ticket.pilots
        (λ j hj. ap₂ ◌-◌ (ticket.pilot_hours j hj) (same-pilot ticket settlement j hj)) f.pilots_in;
  }

-- Of a settlement that fits, nobody has more hours in deals than of his own: with his free hours they are his hours.
module _ (t : Ticket) (x : Settlement) (fits : Fits t x.hours) (growers pilots : List ℕ) (f : AreFree t x growers pilots) where
  pub grower-hours : (i : ℕ) → i < t.growers → get_or growers i 0 + used_by_grower t x.hours i ≡ t.grower_hours i
  grower-hours i hi = omega (arith, f.growers_in.inner i hi, fits.grower i hi)

  pub pilot-hours : (j : ℕ) → j < t.pilots → get_or pilots j 0 + used_by_pilot t x.hours j ≡ t.pilot_hours j
  pilot-hours j hj = omega (arith, f.pilots_in.inner j hj, fits.pilot j hj)
