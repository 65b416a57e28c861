-- What is tested of squares is what is tested of the ticket and the settlement that they hold.
-- Assumes nothing.
use Prim.Native.Nat.{ℕ, ◌-◌, ◌≤◌, ◌<◌, min}
use mathlib.Core.Path.{◌≡◌, refl, ap₂, ◌∙◌}
use mathlib.Core.Bool.{◌&&◌}
use mathlib.Core.List.{List, []}
use native.Mathlib.Omega.{arith}
use lib.Dec.{leb}
use lib.ListN.{get_or}
use Rattle.grid.specs.Grid.{Grid, at}
use Rattle.grid.specs.Fill.{Filled}
use Rattle.grid.proofs.Sums.{sum_same}
use Rattle.market.specs.Market.{Ticket, Settlement}
use Rattle.market.specs.Tables.{ticket_in, settlement_in}
use Rattle.certificate.specs.declared.Party.{Party}
use Rattle.certificate.specs.declared.Side.{Side}
use Rattle.grid.specs.Every.{every}
use Rattle.certificate.specs.Certified.{pair_kept, grower, pilot, pilot_fits, kept, certified}
use Rattle.certificate.specs.Rows.{party_on, IsSide, row_kept, sides_kept}
use Rattle.grid.proofs.EveryLaws.{every-same}
use Rattle.certificate.proofs.LeastLaws.{party_same}

-- a square on its side
abbrev Turned : ℕ → ℕ → Grid → Grid → Type 0
Turned n m q r = Filled (λ j i. at q i j) (min 16 m) (min 16 n) r

module _ (n m : ℕ) (hn : n ≤ 16) (hm : m ≤ 16) (grower_hours pilot_hours none : List ℕ)
    (tariff_cap tariff_gain tariff_pay free_cap joint_gain tariff_hours free_deal_hours pay : Grid)
    (shares by_tariff earned by_free share : Grid) (growers pilots : Side)
    (nothing : (k : ℕ) → get_or none k 0 ≡ 0)
    (fs : Filled (λ i j. at joint_gain i j - at pay i j) (min 16 n) (min 16 m) shares)
    (gs : IsSide n m grower_hours none tariff_hours tariff_gain free_deal_hours shares growers)
    (tt : Turned n m tariff_hours by_tariff) (te : Turned n m tariff_pay earned) (tf : Turned n m free_deal_hours by_free)
    (tp : Turned n m pay share)
    (ps : IsSide m n pilot_hours none by_tariff earned by_free share pilots) where
  abbrev t : Ticket
  t = ticket_in n m grower_hours pilot_hours tariff_cap tariff_gain tariff_pay free_cap joint_gain

  abbrev x : Settlement
  x = settlement_in tariff_hours free_deal_hours pay

  -- the numbers of a grower's rows, and of a pilot's
  of_grower_lem : (i : ℕ) → i < n → (j : ℕ) → j < m → (at tariff_hours i j ≡ at tariff_hours i j) × (at tariff_gain i j ≡ at tariff_gain i j) ×
      (at free_deal_hours i j ≡ at free_deal_hours i j) × (at shares i j ≡ at joint_gain i j - at pay i j)
  of_grower_lem i hi j hj = (refl, refl, refl, fs.inner i j (omega arith) (omega arith))

  of_pilot_lem : (j : ℕ) → j < m → (i : ℕ) → i < n → (at by_tariff j i ≡ at tariff_hours i j) × (at earned j i ≡ at tariff_pay i j) ×
      (at by_free j i ≡ at free_deal_hours i j) × (at share j i ≡ at pay i j)
  of_pilot_lem j hj i hi = (
    tt.inner j i (omega arith) (omega arith),
    te.inner j i (omega arith) (omega arith),
    tf.inner j i (omega arith) (omega arith),
    tp.inner j i (omega arith) (omega arith),
  )

  grower_is : (i : ℕ) → i < n → party_on growers i ≡ grower t x i
  grower_is i hi = gs.parties i hi ∙ party_same _ _ _ _ _ _ _ _ _ _ _ m (nothing i) (of_grower_lem i hi)

  pilot_is : (j : ℕ) → j < m → party_on pilots j ≡ pilot t x j
  pilot_is j hj = ps.parties j hj ∙ party_same _ _ _ _ _ _ _ _ _ _ _ n (nothing j) (of_pilot_lem j hj)

  pilots_fit : pilots.fits ≡ every (pilot_fits t x) m
  pilots_fit = ps.fits ∙ every-same _ _ m (λ j hj. ap₂ leb
      (sum_same _ _ n (λ i hi. omega (arith, (of_pilot_lem j hj i hi).0, (of_pilot_lem j hj i hi).2))) refl)

  row_is : (i : ℕ) → i < n → row_kept (party_on growers i) pilots.free pilots.standby pilots.least
      (get_or tariff_cap i []) (get_or tariff_gain i []) (get_or tariff_pay i [])
      (get_or free_cap i []) (get_or joint_gain i []) (get_or tariff_hours i []) (get_or free_deal_hours i []) (get_or pay i []) m ≡ every (kept t x i) m
  row_is i hi = every-same _ _ m (λ j hj.
      ap₂ (λ (g p : Party). pair_kept g p (at tariff_cap i j) (at tariff_gain i j) (at tariff_pay i j) (at free_cap i j) (at joint_gain i j)
      (at tariff_hours i j) (at free_deal_hours i j) (at pay i j)) (grower_is i hi) (pilot_is j hj))

  -- all three parts of the test
  pub squares_certified : (n' m' : ℕ) → n ≡ n' → m ≡ m' →
      (growers.fits && pilots.fits &&
      sides_kept growers pilots m tariff_cap tariff_gain tariff_pay free_cap joint_gain tariff_hours free_deal_hours pay n) ≡
      certified (ticket_in n' m' grower_hours pilot_hours tariff_cap tariff_gain tariff_pay free_cap joint_gain) x
  squares_certified n' m' en em = rw (← en, ← em, gs.fits, pilots_fit, every-same _ _ n row_is)
