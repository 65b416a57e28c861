-- The sheet of a ticket and a sound settlement: its numbers are small, and written from squares it is the sheet of the lists.
-- Assumes nothing.
use mathlib.Core.Path.{◌≡◌, refl, sym, ap}
use mathlib.Core.Bool.{Bool, true, false, cond}
use mathlib.Core.List.{List, [], ◌∷◌, ◌++◌}
use Prim.Native.Nat.{ℕ, zero, suc, ◌+◌, ◌*◌, ◌-◌, ◌≤◌, ◌<◌}
use native.Mathlib.Omega.{arith}
use lib.Dec.{eqb}
use lib.ListN.{length, get_or}
use Rattle.grid.specs.Grid.{Grid, at}
use Rattle.numbers.proofs.Products.{prod_small}
use Rattle.market.specs.declared.Deal.TheVariants.{Tariff, Free}
use Rattle.market.specs.Market.{Ticket, Settlement}
use Rattle.market.specs.Totals.{promised_worth}
use Rattle.reader.proofs.Facts.{unpacked_shape, unpacked_deal, settlement_shape}
use Rattle.tables.specs.declared.Quantity.{Quantity}
use Rattle.tables.specs.declared.Quantity.TheVariants.{TariffCap, TariffGain, TariffPay, JointGain}
use Rattle.tables.specs.declared.Quantity.TheVariants.{TariffHours, FreeDealHours, Pay}
use Rattle.verdicts.specs.declared.Verdict.{Verdict}
use Rattle.tables.specs.View.{growers_of, pilots_of, quantity_of, ticket_of, settlement_of, Holds}
use Rattle.tables.proofs.Meaning.{held}
use Rattle.marker.specs.Verdict.{judged}
use Rattle.verdicts.specs.Values.{verdict_count}
use Rattle.marker.specs.Marked.{marked}
use Rattle.marker.proofs.Marking.{sound_files_marked}
use Rattle.sheets.specs.Page.{page_bytes}
use Rattle.ascii.specs.Writing.{Wrote}
use Rattle.ascii.specs.Lines.{line}
use Rattle.sheets.specs.Sheet.{sound_word, grower_share, pair_numbers, pair_line, pair_lines, head_of, lines_of, sheet_text}
use Rattle.sheets.specs.Squares.{numbers_in, line_in, Printable}
use Rattle.sheets.specs.Printing.{Settles, Together}
use Rattle.ascii.proofs.PageWriting.{wrote_then}
use Rattle.ascii.proofs.LineLaws.{line_short}
use Rattle.sheets.proofs.PairLaws.{same_lines, pairs_short, if_hours_short}

-- a share is at most the joint gain
share_small : (hours gain pay : ℕ) → gain ≤ 500 → grower_share hours gain pay ≤ 500
share_small hours gain pay h = go (eqb hours 0)
  where
    go : (b : Bool) → cond b 0 (gain - pay) ≤ 500
    go true = omega arith
    go false = omega arith

-- eight numbers that are at most 500
all_small : (i j a b c d e f : ℕ) → i ≤ 500 → j ≤ 500 → a ≤ 500 → b ≤ 500 → c ≤ 500 → d ≤ 500 → e ≤ 500 → f ≤ 500 →
    (k : ℕ) → get_or (pair_numbers i j a b c d e f) k 0 ≤ 500
all_small i j a b c d e f hi hj ha hb hc hd he hf zero = hi
all_small i j a b c d e f hi hj ha hb hc hd he hf (suc zero) = hj
all_small i j a b c d e f hi hj ha hb hc hd he hf (suc (suc zero)) = ha
all_small i j a b c d e f hi hj ha hb hc hd he hf (suc (suc (suc zero))) = hb
all_small i j a b c d e f hi hj ha hb hc hd he hf (suc (suc (suc (suc zero)))) = hc
all_small i j a b c d e f hi hj ha hb hc hd he hf (suc (suc (suc (suc (suc zero))))) = hd
all_small i j a b c d e f hi hj ha hb hc hd he hf (suc (suc (suc (suc (suc (suc zero)))))) = share_small d e f he
all_small i j a b c d e f hi hj ha hb hc hd he hf (suc (suc (suc (suc (suc (suc (suc zero))))))) = hf
all_small i j a b c d e f hi hj ha hb hc hd he hf (suc (suc (suc (suc (suc (suc (suc (suc k)))))))) = omega arith

first_capped : (xs : List ℕ) (p : ℕ) → get_or xs p 0 ≤ 60 → get_or xs (p + 0) 0 ≤ 60
first_capped xs p h = let e : p + 0 ≡ p = omega arith in rw e h

-- the quantities of the lists in squares, as far as the market reaches
pub record Squares (xs ys : List ℕ) (tariff_hours tariff_gain tariff_pay free_deal_hours joint_gain pay : Grid) : Type 0 where
  pub tariff_hours_in : Holds TariffHours ys tariff_hours
  pub tariff_gain_in : Holds TariffGain xs tariff_gain
  pub tariff_pay_in : Holds TariffPay xs tariff_pay
  pub free_deal_hours_in : Holds FreeDealHours ys free_deal_hours
  pub joint_gain_in : Holds JointGain xs joint_gain
  pub pay_in : Holds Pay ys pay

module _ {ticket xs file ys : List ℕ} (s : Settles ticket xs file ys) where
  pub few_growers : growers_of xs ≤ 16
  few_growers = (unpacked_shape ticket xs s.unpacks).growers.1

  pub few_pilots : pilots_of xs ≤ 16
  few_pilots = (unpacked_shape ticket xs s.unpacks).pilots.1

  -- the marker counts all deals
  abbrev all_deals : Verdict
  all_deals = Verdict.Sound (2 * (growers_of xs * pilots_of xs)) (promised_worth (ticket_of xs) (settlement_of ys).hours)

  pub all_deals_marked : marked ticket file ≡ all_deals
  all_deals_marked = sound_files_marked ticket file (record {
    numbers = xs;
    answer = ys;
    is_ticket = s.unpacks;
    is_settlement = s.read;
    sound = s.good.sound;
  })

  pub all_deals_judged : judged (ticket_of xs) (settlement_of ys) ≡ all_deals
  all_deals_judged = rw (s.unpacks, s.read) at all_deals_marked

  pub count_small : verdict_count (judged (ticket_of xs) (settlement_of ys)) < 1000
  count_small =
      omega (arith, ap verdict_count all_deals_judged, prod_small (growers_of xs) (pilots_of xs) few_growers few_pilots)

  hours_small : (i j : ℕ) → i < growers_of xs → j < pilots_of xs →
      (quantity_of TariffHours ys i j ≤ 500) × (quantity_of FreeDealHours ys i j ≤ 500) × (quantity_of Pay ys i j ≤ 500)
  hours_small i j hi hj =
      let d = unpacked_deal ticket xs s.unpacks i j hi hj in
      let f = s.good.sound.feasible in
      let cap : quantity_of TariffCap xs i j ≤ 60 = first_capped xs (3 + growers_of xs + pilots_of xs + 5 * (i * pilots_of xs + j))
      d.tariff_capped in
      let tariff : quantity_of TariffHours ys i j ≤ quantity_of TariffCap xs i j = f.fits.deal Tariff i j hi hj in (
        omega arith,
        omega (arith, f.fits.deal Free i j hi hj, d.free_capped),
        omega (arith, f.pay_in_gain i j hi hj, d.free_gain_capped),
      )

  amounts_small : (i j : ℕ) → i < growers_of xs → j < pilots_of xs →
      (quantity_of TariffGain xs i j ≤ 500) × (quantity_of TariffPay xs i j ≤ 500) × (quantity_of JointGain xs i j ≤ 500)
  amounts_small i j hi hj =
      let d = unpacked_deal ticket xs s.unpacks i j hi hj in (d.gain_capped, d.pay_capped, d.free_gain_capped)

  cell_is : (q : Quantity) (list : List ℕ) (g : Grid) → growers_of list ≡ growers_of xs → pilots_of list ≡ pilots_of xs → Holds q list g →
      (i j : ℕ) → i < growers_of xs → j < pilots_of xs → at g i j ≡ quantity_of q list i j
  cell_is q list g eg ep f i j hi hj =
      sym (held list (growers_of xs) (pilots_of xs) (sym eg) (sym ep) few_growers few_pilots q f i j hi hj)

  module _ (tariff_hours tariff_gain tariff_pay free_deal_hours joint_gain pay : Grid)
      (filled : Squares xs ys tariff_hours tariff_gain tariff_pay free_deal_hours joint_gain pay) where
    same_cells : (i j : ℕ) → i < growers_of xs → j < pilots_of xs →
        (at tariff_hours i j ≡ quantity_of TariffHours ys i j) × (at tariff_gain i j ≡ quantity_of TariffGain xs i j)
        × (at tariff_pay i j ≡ quantity_of TariffPay xs i j) × (at free_deal_hours i j ≡ quantity_of FreeDealHours ys i j)
        × (at joint_gain i j ≡ quantity_of JointGain xs i j) × (at pay i j ≡ quantity_of Pay ys i j)
    same_cells i j hi hj =
        let a = settlement_shape (growers_of xs) (pilots_of xs) file ys s.read in (
          cell_is TariffHours ys tariff_hours a.growers a.pilots filled.tariff_hours_in i j hi hj,
          cell_is TariffGain xs tariff_gain refl refl filled.tariff_gain_in i j hi hj,
          cell_is TariffPay xs tariff_pay refl refl filled.tariff_pay_in i j hi hj,
          cell_is FreeDealHours ys free_deal_hours a.growers a.pilots filled.free_deal_hours_in i j hi hj,
          cell_is JointGain xs joint_gain refl refl filled.joint_gain_in i j hi hj,
          cell_is Pay ys pay a.growers a.pilots filled.pay_in i j hi hj,
        )

    squares_printable : Printable (growers_of xs) (pilots_of xs) (numbers_in tariff_hours tariff_gain tariff_pay free_deal_hours joint_gain pay)
    squares_printable i j hi hj k =
        let h = hours_small i j hi hj in
        let a = amounts_small i j hi hj in
        let e = same_cells i j hi hj in
        all_small i j (at tariff_hours i j) (at tariff_gain i j) (at tariff_pay i j) (at free_deal_hours i j) (at joint_gain i j) (at pay i j)
        (omega (arith, few_growers)) (omega (arith, few_pilots)) (rw e.0 h.0) (rw e.1 a.0) (rw e.2 a.1)
        (rw e.3 h.1) (rw e.4 a.2) (rw e.5 h.2) k

    squares_lines :
        pair_lines (line_in tariff_hours tariff_gain tariff_pay free_deal_hours joint_gain pay) (pilots_of xs) (growers_of xs * pilots_of xs)
        ≡ pair_lines (pair_line (ticket_of xs) (settlement_of ys)) (pilots_of xs) (growers_of xs * pilots_of xs)
    squares_lines = same_lines _ _ (growers_of xs) (pilots_of xs)
        (λ i j hi hj. let e = same_cells i j hi hj in rw (e.0, e.1, e.2, e.3, e.4, e.5))

    -- written from squares, n and m being the list's growers and pilots
    pub lines_fit : (n m at : ℕ) → n ≡ growers_of xs → m ≡ pilots_of xs → at ≤ 14 →
        ((n ≤ 16) × (m ≤ 16) × (at + 8192 ≤ page_bytes)) × Printable n m
        (numbers_in tariff_hours tariff_gain tariff_pay free_deal_hours joint_gain pay)
    lines_fit n m at en em near =
        ((omega (arith, en, few_growers), omega (arith, em, few_pilots), omega arith), rw (en, em) squares_printable)

    pub lines_written : {page page₁ : List ℕ} {at end : ℕ} (n m : ℕ) → n ≡ growers_of xs → m ≡ pilots_of xs →
        Wrote page page₁ at end (pair_lines (line_in tariff_hours tariff_gain tariff_pay free_deal_hours joint_gain pay) m (n * m)) →
        Wrote page page₁ at end (lines_of xs ys)
    lines_written n m en em w = rw (en, em, squares_lines) at w

-- The header is short, and after the lines of the pairs there is room for the last line.
pub head_short : {page page₁ : List ℕ} {end : ℕ} (xs : List ℕ) → Wrote page page₁ 0 end (head_of xs) → end ≤ 14
head_short xs w = omega (arith, w.ends, line_short (growers_of xs ∷ pilots_of xs ∷ []))

pair-line_short : (t : Ticket) (x : Settlement) (i j : ℕ) → length (pair_line t x i j) ≤ 32
pair-line_short t x i j =
    if_hours_short (x.hours Tariff i j) (x.hours Free i j)
    (pair_numbers i j (x.hours Tariff i j) (t.tariff_gain i j) (t.tariff_pay i j) (x.hours Free i j) (t.joint_gain i j) (x.pay i j))

pub lines_short : (xs ys : List ℕ) → length (lines_of xs ys) ≤ 32 * (growers_of xs * pilots_of xs)
lines_short xs ys =
    pairs_short (pair_line (ticket_of xs) (settlement_of ys)) (pilots_of xs) (growers_of xs * pilots_of xs)
    (pair-line_short (ticket_of xs) (settlement_of ys))

pub last_fits : {xs ys page page₁ : List ℕ} {at end count : ℕ} → Together xs ys count → at ≤ 14 → Wrote page page₁ at end (lines_of xs ys) →
    (count < 1000) × (end + 6 + 4 ≤ page_bytes)
last_fits {xs} {ys} t near w =
    let s = t.paired.settles in
    let few = prod_small (growers_of xs) (pilots_of xs) (few_growers s) (few_pilots s) in
    (omega (arith, t.marks, count_small s), omega (arith, w.ends, lines_short xs ys))

pub sheet_whole : {xs ys page page₁ page₂ page₃ : List ℕ} {next last end count : ℕ} → Together xs ys count → Wrote page page₁ 0 next
    (head_of xs) →
    Wrote page₁ page₂ next last (lines_of xs ys) → Wrote page₂ page₃ last end (sound_word ++ line (count ∷ [])) →
    Wrote page page₃ 0 end (sheet_text xs ys)
sheet_whole t headed lined closed = wrote_then (wrote_then headed lined) (rw t.marks at closed)
