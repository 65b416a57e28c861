-- The pairs of an accepted ticket: what their five numbers are, and who is noted to have no hours.
use Rattle.std.specs.Prelude.{Ok}
use mathlib.Core.Path.{◌≡◌, refl, ap, ◌∙◌}
use mathlib.Core.Bool.{Bool, true}
use mathlib.Core.List.{List, [], ◌∷◌}
use Prim.Native.Nat.{ℕ, zero, suc, ◌+◌, ◌-◌, ◌*◌, ◌/◌, ◌%◌, ◌≤◌, ◌<◌}
use native.Mathlib.Omega.{arith}
use lib.Dec.{lit<}
use lib.ListN.{length, get_or, take, drop}
use lib.Seq.{drop-cons, length-take-le, take-take}
use Rattle.checks.specs.declared.ticket.Field.{Field}
use Rattle.checks.specs.declared.ticket.Field.TheVariants.{Hours}
use Rattle.checks.specs.Hours.{noted_all, none_of, none_in}
use Rattle.checks.specs.TicketFaults.{amount_fault, cap_fault}
use Rattle.checks.proofs.HourLaws.{none-noted, none_taken}
use Rattle.checks.proofs.FaultLaws.{amount_range, amount_none, cap_range, cap-none}
use Rattle.documents.specs.declared.State.{State}
use Rattle.documents.specs.Walk.{final}
use Rattle.documents.specs.State.{start}
use Rattle.documents.specs.Ticket.{deal_field, after_of}
use Rattle.documents.specs.Layout.{ticket}
use Rattle.documents.proofs.WalkLaws.{Good, good_drop}
use Rattle.documents.proofs.TicketLaws.{hours_place_lem, pair_place, deal_place, after_steady, Stands, stands}

-- The five numbers of a pair: caps at most 60, amounts at most 500, and none where the cap is 0.
pub record Deal (tariff_cap tariff_gain tariff_pay free_cap free_gain : ℕ) : Type 0 where
  pub tariff_capped : tariff_cap ≤ 60
  pub gain_capped : tariff_gain ≤ 500
  pub pay_capped : tariff_pay ≤ 500
  pub free_capped : free_cap ≤ 60
  pub free_gain_capped : free_gain ≤ 500
  pub no_tariff : tariff_cap ≡ 0 → (tariff_gain ≡ 0) × (tariff_pay ≡ 0)
  pub no_free : free_cap ≡ 0 → free_gain ≡ 0

-- No number of a pair has a fault, where `none` says whether somebody of it has no hours.
pub record Faultless (none : Bool) (a b c d e : ℕ) : Type 0 where
  pub tariff_cap : cap_fault none a ≡ Ok tt
  pub tariff_gain : amount_fault a b ≡ Ok tt
  pub tariff_pay : amount_fault a c ≡ Ok tt
  pub free_cap : cap_fault none d ≡ Ok tt
  pub free_gain : amount_fault d e ≡ Ok tt

deal_faultless : (s : State) (q a b c d e : ℕ) (xs : List ℕ) → s.place ≡ 3 + s.growers + s.pilots + 5 * q →
    Good ticket s (a ∷ b ∷ c ∷ d ∷ e ∷ xs) → Faultless (none_of s.without s.growers s.pilots q) a b c d e
deal_faultless s q a b c d e xs h g =
    let p = s.place in
    let n = s.growers in
    let m = s.pilots in
    let here : (p - 3 - (n + m)) / 5 ≡ q = omega arith in
    let r =
    rw (
      deal_place n m q 0 p (lit< tt) (omega arith),
      deal_place n m q 1 (p + 1) (lit< tt) (omega arith),
      deal_place n m q 2 (p + 1 + 1) (lit< tt) (omega arith),
      deal_place n m q 3 (p + 1 + 1 + 1) (lit< tt) (omega arith),
      deal_place n m q 4 (p + 1 + 1 + 1 + 1) (lit< tt) (omega arith),
      here,
    ) at g in
    record { tariff_cap = r.0; tariff_gain = r.1.0; tariff_pay = r.1.1.0; free_cap = r.1.1.1.0; free_gain = r.1.1.1.1.0 }

pub faultless_deal : (none : Bool) (a b c d e : ℕ) → Faultless none a b c d e → Deal a b c d e
faultless_deal none a b c d e f = record {
  tariff_capped = cap_range none a f.tariff_cap;
  gain_capped = amount_range a b f.tariff_gain;
  pay_capped = amount_range a c f.tariff_pay;
  free_capped = cap_range none d f.free_cap;
  free_gain_capped = amount_range d e f.free_gain;
  no_tariff = λ z. (amount_none a b f.tariff_gain z, amount_none a c f.tariff_pay z);
  no_free = λ z. amount_none d e f.free_gain z;
}

pub five : (xs : List ℕ) (p : ℕ) → p + 4 < length xs →
    drop p xs ≡ get_or xs p 0 ∷ get_or xs (p + 1) 0 ∷ get_or xs (p + 2) 0 ∷ get_or xs (p + 3) 0 ∷ get_or xs (p + 4) 0 ∷ drop (p + 5) xs
five xs p h =
    let e₁ : p + 1 ≡ suc p = omega arith in
    let e₂ : p + 2 ≡ suc (suc p) = omega arith in
    let e₃ : p + 3 ≡ suc (suc (suc p)) = omega arith in
    let e₄ : p + 4 ≡ suc (suc (suc (suc p))) = omega arith in
    let e₅ : p + 5 ≡ suc (suc (suc (suc (suc p)))) = omega arith in
    rw (
      e₁,
      e₂,
      e₃,
      e₄,
      e₅,
      drop-cons xs p 0 (omega arith),
      drop-cons xs (suc p) 0 (omega arith),
      drop-cons xs (suc (suc p)) 0 (omega arith),
      drop-cons xs (suc (suc (suc p))) 0 (omega arith),
      drop-cons xs (suc (suc (suc (suc p)))) 0 (omega arith),
    )

-- Hours are noted, and after them who was noted stays.
deal_without : (k : ℕ) (s : State) (x : ℕ) → (after_of (deal_field k) s x).without ≡ s.without
deal_without zero s x = refl
deal_without (suc zero) s x = refl
deal_without (suc (suc zero)) s x = refl
deal_without (suc (suc (suc zero))) s x = refl
deal_without (suc (suc (suc (suc k)))) s x = refl

pairs-noted : (s : State) (xs : List ℕ) (n m p : ℕ) → Stands s n m p → 3 + n + m ≤ p → (final ticket s xs).without ≡ s.without
pairs-noted s [] n m p t h = refl
pairs-noted s (x ∷ xs) n m p t h =
    let k = after_steady s x (omega (arith, t.place)) in
    let e = pair_place s (omega (arith, t.growers, t.pilots, t.place)) in
    pairs-noted (ticket.after s x) xs n m (suc p)
    (record { growers = k.growers ∙ t.growers; pilots = k.pilots ∙ t.pilots; place = omega (arith, k.place, t.place) }) (omega arith)
    ∙ rw e (deal_without ((s.place - (3 + s.growers + s.pilots)) % 5) s x)

hours-noted : (s : State) (xs : List ℕ) (n m k p : ℕ) → Stands s n m p → 3 ≤ p → p + k ≡ 3 + n + m →
    (final ticket s xs).without ≡ noted_all s.without (take k xs)
hours-noted s xs n m zero p t h e = pairs-noted s xs n m p t (omega arith)
hours-noted s [] n m (suc k) p t h e = refl
hours-noted s (x ∷ xs) n m (suc k) p t h e =
    let f = hours_place_lem s (omega (arith, t.place)) (omega (arith, t.growers, t.pilots, t.place)) in
    ap (λ (g : Field). (final ticket (after_of g s x) xs).without) f
    ∙ hours-noted (after_of Hours s x) xs n m k (suc p)
    (record { growers = t.growers; pilots = t.pilots; place = omega (arith, t.place) }) (omega arith) (omega arith)

-- The pair q of an accepted ticket.
ticket_faultless : (k n m : ℕ) (xs : List ℕ) → Good ticket start (k ∷ n ∷ m ∷ xs) → (q r : ℕ) → r ≡ n + m + 5 * q → r + 4 < length xs →
    Faultless (none_of (noted_all 0 (take (n + m) xs)) n m q)
    (get_or xs r 0) (get_or xs (r + 1) 0) (get_or xs (r + 2) 0) (get_or xs (r + 3) 0) (get_or xs (r + 4) 0)
ticket_faultless k n m xs g q r e l =
    let s = final ticket start (take (suc (suc (suc r))) (k ∷ n ∷ m ∷ xs)) in
    let t = stands k n m xs r (omega arith) in
    let w = good_drop ticket start (suc (suc (suc r))) (k ∷ n ∷ m ∷ xs) g in
    let f = deal_faultless s q _ _ _ _ _ (drop (r + 5) xs) (rw (t.growers, t.pilots, t.place) (omega arith)) (rw (five xs r l) at w) in
    rw (t.growers, t.pilots, noted-at k n m xs r (omega arith) (omega arith)) at f
  where
    noted-at : (k n m : ℕ) (xs : List ℕ) (r : ℕ) → n + m ≤ r → r ≤ length xs →
        (final ticket start (take (suc (suc (suc r))) (k ∷ n ∷ m ∷ xs))).without ≡ noted_all 0 (take (n + m) xs)
    noted-at k n m xs r h l =
        hours-noted (ticket.after (ticket.after (ticket.after start k) n) m) (take r xs) n m (n + m) 3
        (record { growers = refl; pilots = refl; place = refl }) (omega arith) (omega arith)
        ∙ ap (noted_all 0) (take-take (n + m) r xs h)

pub ticket_deal : (k n m : ℕ) (xs : List ℕ) → Good ticket start (k ∷ n ∷ m ∷ xs) → (q r : ℕ) → r ≡ n + m + 5 * q → r + 4 < length xs →
    Deal (get_or xs r 0) (get_or xs (r + 1) 0) (get_or xs (r + 2) 0) (get_or xs (r + 3) 0) (get_or xs (r + 4) 0)
ticket_deal k n m xs g q r e l =
    faultless_deal (none_of (noted_all 0 (take (n + m) xs)) n m q) _ _ _ _ _ (ticket_faultless k n m xs g q r e l)

-- Whose grower or pilot has no hours has no caps.
pub ticket-none : (k n m : ℕ) (xs : List ℕ) → Good ticket start (k ∷ n ∷ m ∷ xs) → n + m ≤ 32 → (q r : ℕ) → q < n * m →
    r ≡ n + m + 5 * q → r + 4 < length xs → none_in xs n m q ≡ true → (get_or xs r 0 ≡ 0) × (get_or xs (r + 3) 0 ≡ 0)
ticket-none k n m xs g few q r h e l none =
    let f = ticket_faultless k n m xs g q r e l in
    let same = none-noted (take (n + m) xs) n m q (length-take-le (n + m) xs (omega arith)) few h ∙ none_taken xs n m q h in
    (cap-none _ (get_or xs r 0) f.tariff_cap (same ∙ none), cap-none _ (get_or xs (r + 3) 0) f.free_cap (same ∙ none))
