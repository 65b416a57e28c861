-- What the rows of a party say of its hours and its earnings.
-- Assumes nothing.
use Prim.Native.Nat.{ℕ, ◌-◌, ◌<◌, ◌≤◌, min}
use mathlib.Core.Path.{◌≡◌, refl, ap}
use mathlib.Core.List.{List, []}
use native.Mathlib.Omega.{arith}
use lib.ListN.{get_or}
use Rattle.grid.specs.Grid.{Grid, at}
use Rattle.grid.specs.Fill.{Filled}
use Rattle.grid.proofs.Sums.{sum_same}
use Rattle.market.specs.declared.Deal.{Deal}
use Rattle.market.specs.declared.Deal.TheVariants.{Tariff, Free}
use Rattle.market.specs.Market.{sum_deals, earned_by_grower, earned_by_pilot}
use Rattle.market.specs.Tables.{ticket_in, settlement_in}
use Rattle.verdicts.specs.Tests.{lines}
use Rattle.marker.specs.declared.Party.{Party}
use Rattle.marker.specs.Tables.{used_in, party_of, party_at, IsParty, IsGrower, IsPilot}

-- a party of rows that hold such hours and earnings
party_is : (p : Party) (k own : ℕ) (had worth : Deal → ℕ → ℕ) (tariff free earned share : List ℕ) →
    p ≡ party_of own tariff free earned share k → ((e : Deal) (l : ℕ) → l < k → lines tariff free e l ≡ had e l) →
    ((e : Deal) (l : ℕ) → l < k → lines earned share e l ≡ worth e l) → IsParty p k own had worth
party_is p k own had worth tariff free earned share e h w = rw e (record {
  owns = refl;
  used = used;
  unused = ap (λ (u : ℕ). own - u) used;
  hours = h;
  earned = w;
})
  where
    used : used_in tariff free k ≡ sum_deals had k
    used = sum_same _ _ k (λ l hl. omega (arith, h Tariff l hl, h Free l hl))

-- a grower of the rows of squares
module _ (n m : ℕ) (hn : n ≤ 16) (hm : m ≤ 16) (own : List ℕ) (tariff_hours free_deal_hours tariff_gain joint_gain pay shares : Grid)
    (fs : Filled (λ i j. at joint_gain i j - at pay i j) (min 16 n) (min 16 m) shares) (i : ℕ) (hi : i < n) where
  grower_had : (e : Deal) (l : ℕ) → lines (get_or tariff_hours i []) (get_or free_deal_hours i []) e l ≡
      (settlement_in tariff_hours free_deal_hours pay).hours e i l
  grower_had Tariff l = refl
  grower_had Free l = refl

  grower-worth : (e : Deal) (l : ℕ) → l < m → lines (get_or tariff_gain i []) (get_or shares i []) e l ≡
      earned_by_grower (ticket_in n m own [] [] tariff_gain [] [] joint_gain) (settlement_in tariff_hours free_deal_hours pay) e i l
  grower-worth Tariff l hl = refl
  grower-worth Free l hl = fs.inner i l (omega arith) (omega arith)

  pub grower_is : (p : Party) → p ≡ party_at own tariff_hours free_deal_hours tariff_gain shares m i →
      IsGrower (ticket_in n m own [] [] tariff_gain [] [] joint_gain) (settlement_in tariff_hours free_deal_hours pay) i p
  grower_is p e = party_is p m _ _ _ _ _ _ _ e (λ d l _. grower_had d l) grower-worth

-- a square on its side
abbrev Turned : ℕ → ℕ → Grid → Grid → Type 0
Turned n m q r = Filled (λ j i. at q i j) (min 16 m) (min 16 n) r

-- a pilot of the rows of squares on their side
module _ (n m : ℕ) (hn : n ≤ 16) (hm : m ≤ 16) (own : List ℕ) (tariff_hours free_deal_hours tariff_pay pay : Grid)
    (by_tariff by_free earned share : Grid)
    (ft : Turned n m tariff_hours by_tariff) (ff : Turned n m free_deal_hours by_free) (fe : Turned n m tariff_pay earned)
    (fs : Turned n m pay share)
    (j : ℕ) (hj : j < m) where
  pilot_had : (e : Deal) (k : ℕ) → k < n → lines (get_or by_tariff j []) (get_or by_free j []) e k ≡
      (settlement_in tariff_hours free_deal_hours pay).hours e k j
  pilot_had Tariff k hk = ft.inner j k (omega arith) (omega arith)
  pilot_had Free k hk = ff.inner j k (omega arith) (omega arith)

  pilot-worth : (e : Deal) (k : ℕ) → k < n → lines (get_or earned j []) (get_or share j []) e k ≡
      earned_by_pilot (ticket_in n m [] own [] [] tariff_pay [] []) (settlement_in tariff_hours free_deal_hours pay) e k j
  pilot-worth Tariff k hk = fe.inner j k (omega arith) (omega arith)
  pilot-worth Free k hk = fs.inner j k (omega arith) (omega arith)

  pub pilot_is : (p : Party) → p ≡ party_at own by_tariff by_free earned share n j →
      IsPilot (ticket_in n m [] own [] [] tariff_pay [] []) (settlement_in tariff_hours free_deal_hours pay) j p
  pilot_is p e = party_is p n _ _ _ _ _ _ _ e pilot_had pilot-worth
