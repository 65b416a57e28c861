-- The list that is written of a sound settlement: it means the same settlement, and so does its front, which takes few bytes.
-- Assumes nothing.
use Prim.Native.Nat.{ℕ, zero, suc, ◌+◌, ◌*◌, ◌/◌, ◌%◌, ◌≤◌, ◌<◌, min}
use mathlib.Core.Path.{◌≡◌, refl, sym, subst, ap, ◌∙◌}
use mathlib.Core.Logic.{⊎_elim}
use mathlib.Core.List.{List}
use native.Mathlib.Nat.{div-add-mod'}
use native.Mathlib.Omega.{arith}
use lib.ListN.{length, get_or, take, get_or-eq_default}
use lib.Seq.{get_or-take, length-take-le}
use Rattle.grid.specs.Grid.{Grid}
use Rattle.grid.proofs.Cases.{lt_or_le}
use Rattle.grid.proofs.Places.{inside}
use Rattle.numbers.proofs.Products.{prod_small}
use Rattle.market.specs.declared.Deal.{Deal}
use Rattle.market.specs.declared.Deal.TheVariants.{Tariff, Free}
use Rattle.market.specs.Market.{Ticket, Sound}
use Rattle.market.specs.Tables.{settlement_in}
use Rattle.market.specs.Same.{SameTicket, SameSettlement}
use Rattle.market.proofs.Same.{sound_same}
use Rattle.market.proofs.Gains.{nothing_blocks_iff}
use Rattle.groups.specs.Groups.{pack}
use Rattle.reader.specs.Answer.{settlement_packed}
use Rattle.documents.proofs.SettlementLaws.{SettlementShape}
use Rattle.reader.proofs.Facts.{pair-below, settlement_accepted, settlement-bytes}
use Rattle.tables.specs.View.{growers_of, pilots_of, pair_place, ticket_of, first_sixteen, settlement_of, settlement_length, settlement_front}
use Rattle.settler.specs.Listing.{number_of, Listed}
use Rattle.settler.specs.SettledList.{SettledList}
use Rattle.settler.specs.Settled.{SoundNumbers}
use Rattle.settler.specs.Numbers.{IsTicket, SoundFront}
use Rattle.marker.proofs.TicketLimits.{Limits, limits}

module _ {n m : ℕ} {tariff_hours free_deal_hours pay : Grid} {list : List ℕ} (l : Listed n m tariff_hours free_deal_hours pay list) where
  -- the number k of a pair
  of_pair : (i j k : ℕ) → i < n → j < m → k < 3 → get_or list (pair_place 3 3 k (pilots_of list) i j) 0 ≡
      number_of tariff_hours free_deal_hours pay k i j
  of_pair i j k hi hj hk = ap (λ (w : ℕ). get_or list (pair_place 3 3 k w i j) 0) (l.head 2 (omega arith)) ∙ l.pairs k i j hk hi hj

  list_same : (t : Ticket) → t.growers ≡ n → t.pilots ≡ m → SameSettlement t (settlement_in tariff_hours free_deal_hours pay)
      (settlement_of list)
  list_same t en em = record {
    hours = hours;
    pay = λ i j hi hj. of_pair i j 2 (omega (arith, en)) (omega (arith, em)) (omega arith);
  }
    where
      hours : (d : Deal) (i j : ℕ) → i < t.growers → j < t.pilots →
          (settlement_of list).hours d i j ≡ (settlement_in tariff_hours free_deal_hours pay).hours d i j
      hours Tariff i j hi hj = of_pair i j 0 (omega (arith, en)) (omega (arith, em)) (omega arith)
      hours Free i j hi hj = of_pair i j 1 (omega (arith, en)) (omega (arith, em)) (omega arith)

-- A sound settlement of the ticket that a list means, written into a list.
pub settled_list : (xs : List ℕ) (t : Ticket) → SameTicket t (first_sixteen (ticket_of xs)) → (tariff_hours free_deal_hours pay : Grid) →
    Sound t (settlement_in tariff_hours free_deal_hours pay) → (list : List ℕ) → length list ≡ 771 →
    (n m : ℕ) → n ≡ min 16 (growers_of xs) → m ≡ min 16 (pilots_of xs) → Listed n m tariff_hours free_deal_hours pay list → SettledList xs list
settled_list xs t same tariff_hours free_deal_hours pay s list long n m en em l = record {
  long = long;
  kind = l.head 0 (omega arith);
  growers = l.head 1 (omega arith) ∙ en;
  pilots = l.head 2 (omega arith) ∙ em;
  rest = λ p h. l.rest p (rw (l.head 1 (omega arith), l.head 2 (omega arith)) at h);
  sound = sound;
  nobody_gains = (nothing_blocks_iff (first_sixteen (ticket_of xs)) _).0 sound.nothing_blocks;
}
  where
    sound : Sound (first_sixteen (ticket_of xs)) (settlement_of list)
    sound = sound_same same (list_same l t (omega (arith, same.growers, en)) (omega (arith, same.pilots, em))) s

pub itself : (t : Ticket) → SameTicket t t
itself t = record {
  growers = refl;
  pilots = refl;
  grower_hours = λ i hi. refl;
  pilot_hours = λ j hj. refl;
  tariff_cap = λ i j hi hj. refl;
  tariff_gain = λ i j hi hj. refl;
  tariff_pay = λ i j hi hj. refl;
  free_cap = λ i j hi hj. refl;
  joint_gain = λ i j hi hj. refl;
  grower_standby = λ i hi. refl;
  pilot_standby = λ j hj. refl;
}

-- Of a ticket that passes its checks: it has no more than 16 of each, and the front of the list is a settlement's file.
module _ (xs list : List ℕ) (is : IsTicket xs) (s : SettledList xs list) where
  abbrev n : ℕ
  n = growers_of xs

  abbrev m : ℕ
  m = pilots_of xs

  within : Limits (ticket_of xs)
  within = limits is.bytes xs is.from

  all_growers : growers_of list ≡ n
  all_growers = omega (arith, s.growers, within.growers)

  all_pilots : pilots_of list ≡ m
  all_pilots = omega (arith, s.pilots, within.pilots)

  here : Sound (ticket_of xs) (settlement_of list)
  here =
      let g : min 16 (growers_of xs) ≡ growers_of xs = omega (arith, within.growers) in
      let p : min 16 (pilots_of xs) ≡ pilots_of xs = omega (arith, within.pilots) in
      rw (g, p) at s.sound

  -- the settlement's own numbers are the front of the list
  abbrev own : List ℕ
  own = take (settlement_length n m) list

  own_is : settlement_front list ≡ own
  own_is = rw (all_growers, all_pilots)

  own_long : length own ≡ settlement_length n m
  own_long = length-take-le (settlement_length n m) list (omega (arith, s.long, prod_small n m within.growers within.pilots))

  own_number : (p : ℕ) → p < settlement_length n m → get_or own p 0 ≡ get_or list p 0
  own_number p h = get_or-take (settlement_length n m) list p 0 h

  own_growers : growers_of own ≡ n
  own_growers = own_number 1 (omega arith) ∙ all_growers

  own_pilots : pilots_of own ≡ m
  own_pilots = own_number 2 (omega arith) ∙ all_pilots

  -- a number of a pair, in the list and in its front
  own_pair : (i j k : ℕ) → i < n → j < m → k < 3 → get_or own (pair_place 3 3 k (pilots_of own) i j) 0 ≡
      get_or list (pair_place 3 3 k (pilots_of list) i j) 0
  own_pair i j k hi hj hk =
      rw (own_pilots, all_pilots) (own_number (pair_place 3 3 k m i j) (omega (arith, pair-below n m i j hi hj)))

  own_same : SameSettlement (ticket_of xs) (settlement_of list) (settlement_of own)
  own_same = record { hours = hours; pay = λ i j hi hj. own_pair i j 2 hi hj (omega arith) }
    where
      hours : (d : Deal) (i j : ℕ) → i < n → j < m → (settlement_of own).hours d i j ≡ (settlement_of list).hours d i j
      hours Tariff i j hi hj = own_pair i j 0 hi hj (omega arith)
      hours Free i j hi hj = own_pair i j 1 hi hj (omega arith)

  -- the front means the same settlement as the list, and of the ticket nobody is left out
  pub front_means : SameSettlement (ticket_of xs) (settlement_of list) (settlement_of (settlement_front list))
  front_means = subst (λ (l : List ℕ). SameSettlement (ticket_of xs) (settlement_of list) (settlement_of l)) (sym own_is) own_same

  pub nobody_left : SameTicket (first_sixteen (ticket_of xs)) (ticket_of xs)
  nobody_left =
      let g : min 16 (growers_of xs) ≡ growers_of xs = omega (arith, within.growers) in
      let p : min 16 (pilots_of xs) ≡ pilots_of xs = omega (arith, within.pilots) in
      rw (g, p) (itself (ticket_of xs))

  -- hours take one byte each, and pay at most two
  few : (k i j : ℕ) → k < 2 → i < n → j < m → get_or list (pair_place 3 3 k (pilots_of list) i j) 0 < 128
  few zero i j hk hi hj = omega (arith, here.feasible.fits.deal Tariff i j hi hj, within.tariff_cap i j hi hj)
  few (suc zero) i j hk hi hj = omega (arith, here.feasible.fits.deal Free i j hi hj, within.free_cap i j hi hj)
  few (suc (suc k)) i j hk hi hj = absurd (omega arith)

  small : (k i j : ℕ) → k < 3 → i < n → j < m → get_or list (pair_place 3 3 k (pilots_of list) i j) 0 < 16384
  small zero i j hk hi hj = omega (arith, few 0 i j (omega arith) hi hj)
  small (suc zero) i j hk hi hj = omega (arith, few 1 i j (omega arith) hi hj)
  small (suc (suc zero)) i j hk hi hj = omega (arith, here.feasible.pay_in_gain i j hi hj, within.joint_gain i j hi hj)
  small (suc (suc (suc k))) i j hk hi hj = absurd (omega arith)

  -- the number k of the pair q
  at_place : (q k p : ℕ) → q < n * m → k < 3 → p ≡ 3 + 3 * q + k →
      get_or own p 0 ≡ get_or list (pair_place 3 3 k (pilots_of list) (q / m) (q % m)) 0
  at_place q k p h hk e =
      let f : p ≡ 3 + 3 * (q / m * m + q % m) + k = omega (arith, div-add-mod' q m) in
      rw all_pilots (own_number p (omega arith) ∙ ap (λ (a : ℕ). get_or list a 0) f)

  -- every number: of the head, or of a pair
  number_small : (p : ℕ) → p < settlement_length n m → get_or own p 0 < 16384
  number_small zero h = omega (arith, own_number 0 h, s.kind)
  number_small (suc zero) h = omega (arith, own_growers, within.growers)
  number_small (suc (suc zero)) h = omega (arith, own_pilots, within.pilots)
  number_small (suc (suc (suc r))) h =
      let hq : r / 3 < n * m = omega arith in
      let w = inside n m (r / 3) hq in
      omega (
        arith,
        at_place (r / 3) (r % 3) (suc (suc (suc r))) hq (omega arith) (omega arith),
        small (r % 3) (r / 3 / m) (r / 3 % m) (omega arith) w.grower w.pilot,
      )

  own_shape : SettlementShape own n m
  own_shape = record {
    count = own_long;
    kind = own_number 0 (omega arith) ∙ s.kind;
    growers = own_growers;
    pilots = own_pilots;
    small = λ p. ⊎_elim
        (number_small p)
        (λ h. omega (arith, get_or-eq_default own 0 {n = p} (omega (arith, own_long))))
        (lt_or_le p (settlement_length n m));
  }

  own_short : length (pack own) ≤ 3 + 4 * (n * m)
  own_short = settlement-bytes n m own own_shape (omega (arith, within.growers)) (omega (arith, within.pilots)) (λ q h.
      let w = inside n m q h in (
        omega (arith, at_place q 0 (3 + 3 * q) h (omega arith) (omega arith), few 0 (q / m) (q % m) (omega arith) w.grower w.pilot),
        omega (arith, at_place q 1 (4 + 3 * q) h (omega arith) (omega arith), few 1 (q / m) (q % m) (omega arith) w.grower w.pilot),
      ))

  sound : Sound (ticket_of xs) (settlement_of own)
  sound = sound_same (itself (ticket_of xs)) own_same here

  pub sound_front : SoundFront xs list
  sound_front = record {
    good = subst (λ (o : List ℕ). SoundNumbers xs o) (sym own_is)
        (record { sound = sound; nobody_gains = (nothing_blocks_iff (ticket_of xs) _).0 sound.nothing_blocks });
    bytes = pack own;
    packs = ap (settlement_packed n m) own_is ∙ (settlement_accepted n m own own_shape).0;
    short = own_short;
  }
