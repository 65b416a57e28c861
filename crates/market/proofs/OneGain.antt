-- How far one joint gain moves the best total: where it rises by d, the total does not fall, and rises by at most d for
-- each hour that the pair can have.
-- Assumes nothing.
use Prim.Native.Nat.{ℕ, ◌+◌, ◌*◌, ◌≤◌, ◌<◌}
use mathlib.Core.Path.{◌≡◌, ap}
use native.Mathlib.Nat.{mul-le-mul_left}
use native.Mathlib.Omega.{arith}
use Rattle.market.specs.declared.Deal.TheVariants.{Tariff, Free}
use Rattle.market.specs.Market.{Ticket, Settlement, DealHours, Fits, Sound}
use Rattle.market.specs.Squares.{MoreIn}
use Rattle.market.specs.Totals.{NoTariffDeals, total_worth, most_hours, with_gains}
use Rattle.grid.proofs.Sums.{square_one, term_le_sum}
use Rattle.market.proofs.BestTotal.{best_total}

-- The ticket t, and the same with a joint gain of grower i and pilot j that is greater by d.
module _ (t : Ticket) (gains : ℕ → ℕ → ℕ) (i j d : ℕ) (hi : i < t.growers) (hj : j < t.pilots)
    (more : MoreIn t.joint_gain gains i j d) where
  abbrev t' : Ticket
  t' = with_gains t gains

  worth_more : (h : DealHours) → total_worth t' h ≡ total_worth t h + d * h Free i j
  worth_more h = omega (
    arith,
    ap (λ z. h Free i j * z) more.there,
    square_one (λ k l. h Free k l * t.joint_gain k l) (λ k l. h Free k l * gains k l) t.growers t.pilots i j hi hj
        (λ k l ne. ap (λ z. h Free k l * z) (more.rest k l ne)),
  )

  fits_too : (h : DealHours) → Fits t h → Fits t' h
  fits_too h fits = record { deal = fits.deal; grower = fits.grower; pilot = fits.pilot }

  fits_back : (h : DealHours) → Fits t' h → Fits t h
  fits_back h fits = record { deal = fits.deal; grower = fits.grower; pilot = fits.pilot }

  pair_most : (h : DealHours) → Fits t h → h Free i j ≤ most_hours t i j
  pair_most h fits = omega (
    arith,
    fits.deal Free i j hi hj,
    fits.grower i hi,
    fits.pilot j hj,
    term_le_sum (λ l. h Tariff i l + h Free i l) t.pilots j hj,
    term_le_sum (λ k. h Tariff k j + h Free k j) t.growers i hi,
  )

  module _ (free-only : NoTariffDeals t) (x x' : Settlement) (sound : Sound t x) (sound' : Sound t' x') where
    pub total_never_falls : total_worth t x.hours ≤ total_worth t' x'.hours
    total_never_falls = omega (
      arith,
      worth_more x.hours,
      best_total t' free-only x' sound' x.hours (fits_too x.hours sound.feasible.fits),
    )

    pub total_rises_at_most : total_worth t' x'.hours ≤ total_worth t x.hours + d * most_hours t i j
    total_rises_at_most =
        let fits = fits_back x'.hours sound'.feasible.fits in
        omega (
          arith,
          worth_more x'.hours,
          best_total t free-only x sound x'.hours fits,
          mul-le-mul_left d (pair_most x'.hours fits),
        )
