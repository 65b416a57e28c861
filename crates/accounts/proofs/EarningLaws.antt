-- What is summed of rows is what market says that everybody earns; and of a sound settlement it is not much.
-- Assumes nothing.
use Rattle.std.specs.Prelude.{Ok}
use Prim.Native.Nat.{ℕ, ◌+◌, ◌*◌, ◌-◌, ◌<◌, ◌≤◌, min}
use mathlib.Core.Path.{◌≡◌, ap, ◌∙◌}
use mathlib.Core.List.{List}
use native.Mathlib.Nat.{mul-le-mul}
use native.Mathlib.Omega.{arith}
use Rattle.grid.specs.Grid.{Grid, at}
use Rattle.grid.specs.Fill.{Filled}
use Rattle.grid.proofs.Sums.{sum_same, sum_bound}
use Rattle.market.specs.declared.Deal.TheVariants.{Tariff, Free}
use Rattle.market.specs.Market.{Ticket, Settlement, Feasible}
use Rattle.market.specs.Accounts.{grower_gain, pilot_pay}
use Rattle.reader.specs.Answer.{unpacked, settlement_read}
use Rattle.reader.proofs.Facts.{settlement_shape}
use Rattle.tables.specs.declared.Quantity.{Quantity}
use Rattle.tables.specs.declared.Quantity.TheVariants.{TariffGain, TariffPay, JointGain, TariffHours, FreeDealHours, Pay}
use Rattle.tables.specs.View.{growers_of, pilots_of, quantity_of, ticket_of, settlement_of, Holds}
use Rattle.marker.proofs.TicketLimits.{Limits, limits}
use Rattle.accounts.specs.Earnings.{earned_at, most_earned, Modest}

-- a square on its side
abbrev Turned : ℕ → ℕ → Grid → Grid → Type 0
Turned n m q r = Filled (λ j i. at q i j) (min 16 m) (min 16 n) r

module _ (xs ys : List ℕ) (modest : Modest xs ys) (n m : ℕ) (en : n ≡ growers_of xs) (em : m ≡ pilots_of xs) where
  -- the cell of a pair in a square of the ticket, or of the settlement
  of_ticket_lem : (quantity : Quantity) {q : Grid} → Holds quantity xs q → (i j : ℕ) → i < n → j < m → at q i j ≡ quantity_of quantity xs i j
  of_ticket_lem quantity h i j hi hj = h.inner i j (omega (arith, modest.growers)) (omega (arith, modest.pilots))

  of_settlement : (quantity : Quantity) {q : Grid} → Holds quantity ys q → (i j : ℕ) → i < n → j < m → at q i j ≡ quantity_of quantity ys i j
  of_settlement quantity h i j hi hj =
      h.inner i j (omega (arith, modest.growers, modest.same_growers)) (omega (arith, modest.pilots, modest.same_pilots))

  module _ {tariff_hours free_deal_hours pay : Grid} (ht : Holds TariffHours ys tariff_hours) (hf : Holds FreeDealHours ys free_deal_hours)
      (hp : Holds Pay ys pay) where
    pub gain_is : {tariff_gain joint_gain : Grid} → Holds TariffGain xs tariff_gain → Holds JointGain xs joint_gain →
        (i : ℕ) → i < growers_of xs →
        earned_at tariff_hours free_deal_hours tariff_gain joint_gain pay m i ≡ grower_gain (ticket_of xs) (settlement_of ys) i
    gain_is {tariff_gain} {joint_gain} hg hj i hi =
        ap (λ (k : ℕ). earned_at tariff_hours free_deal_hours tariff_gain joint_gain pay k i) em
        ∙ sum_same _ _ (pilots_of xs) (λ j h.
        let a : i < n = omega arith in
        let b : j < m = omega arith in
        rw (
          of_settlement TariffHours ht i j a b,
          of_ticket_lem TariffGain hg i j a b,
          of_settlement FreeDealHours hf i j a b,
          of_ticket_lem JointGain hj i j a b,
          of_settlement Pay hp i j a b,
        ))

    -- by squares on their side, and one of zeros
    pub pay_is : {tariff_pay : Grid} (by_tariff by_free tariff share none : Grid) → Holds TariffPay xs tariff_pay →
        Turned n m tariff_hours by_tariff → Turned n m free_deal_hours by_free → Turned n m tariff_pay tariff → Turned n m pay share →
        ((j i : ℕ) → at none j i ≡ 0) → (j : ℕ) → j < pilots_of xs →
        earned_at by_tariff by_free tariff share none n j ≡ pilot_pay (ticket_of xs) (settlement_of ys) j
    pay_is by_tariff by_free tariff share none hw side_t side_f side_w side_p zero j hj =
        ap (λ (k : ℕ). earned_at by_tariff by_free tariff share none k j) en
        ∙ sum_same _ _ (growers_of xs) (λ i h.
        let a : i < n = omega arith in
        let b : j < m = omega arith in
        let u : j < min 16 m = omega (arith, modest.pilots) in
        let v : i < min 16 n = omega (arith, modest.growers) in
        let whole : at share j i - at none j i ≡ quantity_of Pay ys i j =
        omega (arith, side_p.inner j i u v, zero j i, of_settlement Pay hp i j a b) in
        rw (
          side_t.inner j i u v ∙ of_settlement TariffHours ht i j a b,
          side_w.inner j i u v ∙ of_ticket_lem TariffPay hw i j a b,
          side_f.inner j i u v ∙ of_settlement FreeDealHours hf i j a b,
          whole,
        ))

-- Nobody has more than 60 hours of a deal, at no more than 500 euros.
two_deals : (h a g b : ℕ) → h ≤ 60 → a ≤ 500 → g ≤ 60 → b ≤ 500 → h * a + g * b ≤ 60000
two_deals h a g b hh ha hg hb =
    let x : h * a ≤ 60 * 500 = mul-le-mul hh ha in
    let y : g * b ≤ 60 * 500 = mul-le-mul hg hb in
    omega arith

module _ (t : Ticket) (x : Settlement) (l : Limits t) (f : Feasible t x) where
  hours_few : (i j : ℕ) → i < t.growers → j < t.pilots → (x.hours Tariff i j ≤ 60) × (x.hours Free i j ≤ 60)
  hours_few i j hi hj = (
    omega (arith, f.fits.deal Tariff i j hi hj, l.tariff_cap i j hi hj),
    omega (arith, f.fits.deal Free i j hi hj, l.free_cap i j hi hj),
  )

  gain_small : (i : ℕ) → i < t.growers → grower_gain t x i ≤ most_earned
  gain_small i hi =
      let s : grower_gain t x i ≤ 60000 * t.pilots = sum_bound _ 60000 t.pilots (λ j hj.
      two_deals (x.hours Tariff i j) (t.tariff_gain i j) (x.hours Free i j) (t.joint_gain i j - x.pay i j)
      (hours_few i j hi hj).0 (l.tariff_gain i j hi hj) (hours_few i j hi hj).1 (omega (arith, l.joint_gain i j hi hj))) in
      omega (arith, l.pilots)

  pay_small : (j : ℕ) → j < t.pilots → pilot_pay t x j ≤ most_earned
  pay_small j hj =
      let s : pilot_pay t x j ≤ 60000 * t.growers = sum_bound _ 60000 t.growers (λ i hi.
      two_deals (x.hours Tariff i j) (t.tariff_pay i j) (x.hours Free i j) (x.pay i j)
      (hours_few i j hi hj).0 (l.tariff_pay i j hi hj) (hours_few i j hi hj).1
      (omega (arith, f.pay_in_gain i j hi hj, l.joint_gain i j hi hj))) in
      omega (arith, l.growers)

pub files_modest : (bytes xs settlement ys : List ℕ) → unpacked bytes ≡ Ok xs →
    settlement_read (growers_of xs) (pilots_of xs) settlement ≡ Ok ys → Feasible (ticket_of xs) (settlement_of ys) → Modest xs ys
files_modest bytes xs settlement ys e r f =
    let l = limits bytes xs e in
    let shape = settlement_shape (growers_of xs) (pilots_of xs) settlement ys r in
    record {
      growers = l.growers;
      pilots = l.pilots;
      same_growers = shape.growers;
      same_pilots = shape.pilots;
      gain = gain_small (ticket_of xs) (settlement_of ys) l f;
      pay = pay_small (ticket_of xs) (settlement_of ys) l f;
    }
