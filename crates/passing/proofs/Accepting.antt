-- The quick test of a list: what passes it is a document, whole.
use mathlib.Core.Path.{◌≡◌, refl, ◌∙◌}
use mathlib.Core.Bool.{Bool, true, false, ◌||◌, ◌&&◌}
use mathlib.Core.Logic.{⊎_elim}
use mathlib.Core.List.{List, [], ◌∷◌}
use Prim.Native.Nat.{ℕ, zero, suc, ◌+◌, ◌*◌, ◌-◌, ◌/◌, ◌%◌, ◌^◌, ◌≤◌, ◌<◌}
use native.Mathlib.Nat.{div-add-mod'}
use native.Mathlib.Omega.{arith}
use borrow.Author.Tests.{eqb-true, ltb-true, lt-ltb}
use lib.Dec.{leb, eqb, lit<}
use lib.ListN.{length, get_or, take, drop, drop_of_length-le, get_or-eq_default}
use lib.Seq.{drop-cons, length-take-le}
use Rattle.checks.specs.declared.refusals.Document.{Document}
use Rattle.checks.specs.declared.ticket.Field.TheVariants.{Kind, Growers, Pilots, Hours}
use Rattle.checks.specs.Refusals.{settlement_refusals}
use Rattle.checks.specs.Hours.{noted_all, none_of, none_in}
use Rattle.checks.specs.TicketFaults.{cap_fault, amount_fault, pair_passes, fault_of}
use Rattle.checks.specs.SettlementFaults.{settlement_fault}
use Rattle.std.specs.Prelude.{Ok, is_ok}
use Rattle.checks.proofs.FaultLaws.{is_ok-true, must_holds, party_range, settlement_passes_lem}
use Rattle.checks.proofs.HourLaws.{none-noted, none_taken}
use Rattle.groups.specs.Groups.{groups}
use Rattle.grid.proofs.Cases.{lt_or_le}
use Rattle.grid.proofs.EveryLaws.{both_hold, every-at}
use Rattle.grid.proofs.Places.{inside}
use Rattle.documents.specs.declared.State.{State}
use Rattle.documents.specs.Walk.{read_head, form}
use Rattle.documents.specs.State.{start}
use Rattle.documents.specs.Layout.{form_of, ticket, settlement}
use Rattle.passing.specs.Passes.{head_passes, hours_pass, pair_passes_at, pairs_pass, all_fit, passes_as}
use Rattle.documents.proofs.WalkLaws.{Good, accepts_form}
use Rattle.documents.proofs.Undoing.{head_whole}
use Rattle.documents.proofs.TicketLaws.{Stands, place_after, deal_place}
use Rattle.documents.proofs.PairLaws.{Faultless, five}
use Rattle.documents.proofs.SettlementLaws.{settlement_accepts}

-- What passes at every place, said of each place: everybody's hours, all pairs, and all numbers of a settlement.
abbrev pub HoursPass : List ℕ → ℕ → Type 0
HoursPass list k = (p : ℕ) → p < k → fault_of Hours 0 false (get_or list (3 + p) 0) ≡ Ok tt

abbrev pub PairsPass : List ℕ → ℕ → ℕ → Type 0
PairsPass list n m =
    (i : ℕ) → i < n → (j : ℕ) → j < m →
    pair_passes_at (eqb (get_or list (3 + i) 0) 0 || eqb (get_or list (3 + n + j) 0) 0) list (3 + n + m + 5 * (i * m) + 5 * j) ≡ true

abbrev AllFit : List ℕ → Type 0
AllFit list = (k : ℕ) → k < length list → get_or list k 0 < 128 ^ groups

hours_pass_lem : (list : List ℕ) (k : ℕ) → hours_pass list k ≡ true → HoursPass list k
hours_pass_lem list k e p h = is_ok-true _ (every-at _ k p e h)

pairs_pass_lem : (list : List ℕ) (n m : ℕ) → pairs_pass list n m ≡ true → PairsPass list n m
pairs_pass_lem list n m e i hi j hj = every-at _ m j (every-at _ n i e hi) hj

all_fit_lem : (list : List ℕ) → all_fit list ≡ true → AllFit list
all_fit_lem list e k h = ltb-true _ _ (every-at _ (length list) k e h)

-- No number of a pair that passes has a fault.
pub passes_faultless : (none : Bool) (a b c d e : ℕ) → pair_passes none a b c d e ≡ true → Faultless none a b c d e
passes_faultless none a b c d e h =
    let t₄ = both_hold _ (is_ok (amount_fault d e)) h in
    let t₃ = both_hold _ (is_ok (cap_fault none d)) t₄.0 in
    let t₂ = both_hold _ (is_ok (amount_fault a c)) t₃.0 in
    let t₁ = both_hold (is_ok (cap_fault none a)) (is_ok (amount_fault a b)) t₂.0 in
    record {
      tariff_cap = is_ok-true _ t₁.0;
      tariff_gain = is_ok-true _ t₁.1;
      tariff_pay = is_ok-true _ t₂.1;
      free_cap = is_ok-true _ t₃.1;
      free_gain = is_ok-true _ t₄.1;
    }

-- The pair q of n growers and m pilots in the numbers xs after the first three.
abbrev FaultlessAt : List ℕ → ℕ → ℕ → Bool → ℕ → Type 0
FaultlessAt xs n m none q =
    let r = n + m + 5 * q in
    Faultless none (get_or xs r 0) (get_or xs (r + 1) 0) (get_or xs (r + 2) 0) (get_or xs (r + 3) 0) (get_or xs (r + 4) 0)

module _ (xs : List ℕ) (n m : ℕ) where
  -- Pairs from the pair q on, as many as are left, whose numbers have no fault.
  pairs_good : (k q : ℕ) (s : State) → s.growers ≡ n → s.pilots ≡ m → s.place ≡ 3 + n + m + 5 * q → length xs ≡ n + m + 5 * (q + k) →
      ((p : ℕ) → p < q + k → FaultlessAt xs n m (none_of s.without n m p) p) → Good ticket s (drop (n + m + 5 * q) xs)
  pairs_good zero q s eg ep e l pass = let h : length xs ≤ n + m + 5 * q = omega arith in rw (drop_of_length-le xs h) tt
  pairs_good (suc k) q s eg ep e l pass =
      let p = s.place in
      let here : (p - 3 - (n + m)) / 5 ≡ q = omega arith in
      let f = pass q (omega arith) in
      let more : n + m + 5 * q + 5 ≡ n + m + 5 * (q + 1) = omega arith in
      rw (
        five xs (n + m + 5 * q) (omega arith),
        eg,
        ep,
        deal_place n m q 0 p (lit< tt) (omega arith),
        deal_place n m q 1 (p + 1) (lit< tt) (omega arith),
        deal_place n m q 2 (p + 1 + 1) (lit< tt) (omega arith),
        deal_place n m q 3 (p + 1 + 1 + 1) (lit< tt) (omega arith),
        deal_place n m q 4 (p + 1 + 1 + 1 + 1) (lit< tt) (omega arith),
        here,
        more,
      ) (
        f.tariff_cap,
        (
          f.tariff_gain,
          (
            f.tariff_pay,
            (
              f.free_cap,
              (
                f.free_gain,
                pairs_good k (q + 1) _ refl refl (omega arith) (omega arith) (λ r h. pass r (omega arith)),
              ),
            ),
          ),
        ),
      )

  -- Hours from party p on, as many as are left, that have no fault, before pairs that are good.
  hours_good : (k p : ℕ) (s : State) → Stands s n m (3 + p) → p + k ≡ n + m → n + m ≤ length xs →
      ((h : ℕ) → h < n + m → fault_of Hours 0 false (get_or xs h 0) ≡ Ok tt) →
      ((t : State) → Stands t n m (3 + n + m) → t.without ≡ noted_all s.without (take k (drop p xs)) → Good ticket t (drop (n + m) xs)) →
      Good ticket s (drop p xs)
  hours_good zero p s t e l pass later =
      let d : p ≡ n + m = omega arith in
      rw d (later s (record { growers = t.growers; pilots = t.pilots; place = omega (arith, t.place) }) refl)
  hours_good (suc k) p s t e l pass later =
      let h : p < length xs = omega arith in
      rw (
        t.growers,
        t.pilots,
        t.place,
        drop-cons xs p 0 h,
        place_after n m (3 + p) (omega arith),
        lt-ltb (3 + p - 3) (n + m) (omega arith),
      ) (
        pass p (omega arith),
        hours_good k (suc p) _ (record { growers = refl; pilots = refl; place = omega arith }) (omega arith) l pass
            (λ u r w. later u r (rw (drop-cons xs p 0 h) w)),
      )

-- Growers and pilots that pass are few.
pub head_range : (k n m : ℕ) → head_passes k n m ≡ true → (n ≤ 16) × (m ≤ 16)
head_range k n m e =
    let t = both_hold _ (is_ok (fault_of Pilots 0 false m)) e in
    let u = both_hold (is_ok (fault_of Kind 0 false k)) (is_ok (fault_of Growers 0 false n)) t.0 in
    ((party_range n (is_ok-true _ u.1)).1, (party_range m (is_ok-true _ t.1)).1)

-- The pair q of a list that passes.
pair_passes_lem : (k n m : ℕ) (xs : List ℕ) → PairsPass (k ∷ n ∷ m ∷ xs) n m → (q : ℕ) → q < n * m → FaultlessAt xs n m (none_in xs n m q) q
pair_passes_lem k n m xs pass q h =
    let w = inside n m q h in
    let r = n + m + 5 * q in
    let e₀ : 3 + n + m + 5 * (q / m * m) + 5 * (q % m) ≡ suc (suc (suc r)) = omega (arith, div-add-mod' q m) in
    let e₁ : suc (suc (suc r)) + 1 ≡ suc (suc (suc (r + 1))) = omega arith in
    let e₂ : suc (suc (suc r)) + 2 ≡ suc (suc (suc (r + 2))) = omega arith in
    let e₃ : suc (suc (suc r)) + 3 ≡ suc (suc (suc (r + 3))) = omega arith in
    let e₄ : suc (suc (suc r)) + 4 ≡ suc (suc (suc (r + 4))) = omega arith in
    let eᵢ : 3 + q / m ≡ suc (suc (suc (q / m))) = omega arith in
    let eⱼ : 3 + n + q % m ≡ suc (suc (suc (n + q % m))) = omega arith in
    passes_faultless _ _ _ _ _ _ (rw (e₀, e₁, e₂, e₃, e₄, eᵢ, eⱼ) at (pass (q / m) w.grower (q % m) w.pilot))

-- A list that passes is a ticket, whole.
ticket_good : (k n m : ℕ) (xs : List ℕ) → head_passes k n m ≡ true → length xs ≡ n + m + 5 * (n * m) →
    HoursPass (k ∷ n ∷ m ∷ xs) (n + m) → PairsPass (k ∷ n ∷ m ∷ xs) n m → Good ticket start (k ∷ n ∷ m ∷ xs)
ticket_good k n m xs head l hours pairs =
    let t = both_hold _ (is_ok (fault_of Pilots 0 false m)) head in
    let u = both_hold (is_ok (fault_of Kind 0 false k)) (is_ok (fault_of Growers 0 false n)) t.0 in
    let hn = is_ok-true _ u.1 in
    let hm = is_ok-true _ t.1 in (
      is_ok-true _ u.0,
      (
        hn,
        (
          hm,
          hours_good xs n m (n + m) 0 _ (record { growers = refl; pilots = refl; place = refl }) (omega arith) (omega arith)
              (λ p h. let e : 3 + p ≡ suc (suc (suc p)) = omega arith in rw e at (hours p h))
              (λ s r w. later s r w (party_range n hn).1 (party_range m hm).1),
        ),
      ),
    )
  where
    later : (s : State) → Stands s n m (3 + n + m) → s.without ≡ noted_all 0 (take (n + m) xs) → n ≤ 16 → m ≤ 16 →
        Good ticket s (drop (n + m) xs)
    later s r w hn hm =
        let long = length-take-le (n + m) xs (omega arith) in
        let none : (q : ℕ) → q < n * m → none_of s.without n m q ≡ none_in xs n m q =
        λ q h. rw w (none-noted (take (n + m) xs) n m q long (omega arith) h ∙ none_taken xs n m q h) in
        let z : n + m + 5 * 0 ≡ n + m = omega arith in
        rw z at (pairs_good xs n m (n * m) 0 s r.growers r.pilots (omega (arith, r.place)) (omega arith)
        (λ q h. rw (none q (omega arith)) (pair_passes_lem k n m xs pairs q (omega arith))))

pub ticket_whole : (list : List ℕ) (k n m : ℕ) → k ≡ get_or list 0 0 → n ≡ get_or list 1 0 → m ≡ get_or list 2 0 → head_passes k n m ≡ true →
    length list ≡ 3 + n + m + 5 * (n * m) → HoursPass list (n + m) → PairsPass list n m → form ticket read_head list ≡ Ok list
ticket_whole [] k n m ek en em head l hours pairs = absurd (omega arith)
ticket_whole (a ∷ []) k n m ek en em head l hours pairs = absurd (omega arith)
ticket_whole (a ∷ b ∷ []) k n m ek en em head l hours pairs = absurd (omega arith)
ticket_whole (a ∷ b ∷ c ∷ xs) k n m ek en em head l hours pairs =
    let l' = rw (en, em) at l in
    accepts_form ticket read_head (a ∷ b ∷ c ∷ xs) (a ∷ b ∷ c ∷ xs)
    (record {
      good = ticket_good a b c xs (rw (ek, en, em) at head) (omega arith) (rw (en, em) at hours) (rw (en, em) at pairs);
      count = l' ∙ omega arith;
    })
    (head_whole (a ∷ b ∷ c ∷ xs))

-- A list that passes is a settlement, whole.
all_fit_small : (list : List ℕ) → AllFit list → (i : ℕ) → get_or list i 0 < 16384
all_fit_small list fit i =
    ⊎_elim (λ h. fit i h) (λ h. rw (get_or-eq_default list 0 {n = i} h) (lit< tt)) (lt_or_le i (length list))

settlement_whole : (n m : ℕ) (list : List ℕ) → length list ≡ 3 + 3 * (n * m) → settlement_fault n m 0 (get_or list 0 0) ≡ Ok tt →
    settlement_fault n m 1 (get_or list 1 0) ≡ Ok tt → settlement_fault n m 2 (get_or list 2 0) ≡ Ok tt → AllFit list →
    form (settlement n m) read_head list ≡ Ok list
settlement_whole n m list l kind growers pilots fit =
    accepts_form (settlement n m) read_head list list
    (settlement_accepts n m list
    (record {
      count = l;
      kind = eqb-true _ 2 (must_holds _ settlement_refusals.kind (settlement_passes_lem n m 0 (get_or list 0 0) kind).1);
      growers = eqb-true _ n (must_holds _ settlement_refusals.parties (settlement_passes_lem n m 1 (get_or list 1 0) growers).1);
      pilots = eqb-true _ m (must_holds _ settlement_refusals.parties (settlement_passes_lem n m 2 (get_or list 2 0) pilots).1);
      small = all_fit_small list fit;
    }))
    (head_whole list)

-- A list that passes is a document, whole.
pub passes_whole : (document : Document) (list : List ℕ) → passes_as document list ≡ true →
    form (form_of document) read_head list ≡ Ok list
passes_whole Document.Ticket list e =
    let n = get_or list 1 0 in
    let m = get_or list 2 0 in
    let all = both_hold (eqb (length list) (3 + n + m + 5 * (n * m)) && head_passes (get_or list 0 0) n m)
    (hours_pass list (n + m) && pairs_pass list n m) e in
    let start = both_hold (eqb (length list) (3 + n + m + 5 * (n * m))) (head_passes (get_or list 0 0) n m) all.0 in
    let body = both_hold (hours_pass list (n + m)) (pairs_pass list n m) all.1 in
    ticket_whole list _ _ _ refl refl refl start.1 (eqb-true _ _ start.0) (hours_pass_lem list (n + m) body.0)
    (pairs_pass_lem list n m body.1)
passes_whole (Document.Settlement n m) list e =
    let kind = is_ok (settlement_fault n m 0 (get_or list 0 0)) in
    let growers = is_ok (settlement_fault n m 1 (get_or list 1 0)) in
    let pilots = is_ok (settlement_fault n m 2 (get_or list 2 0)) in
    let count = eqb (length list) (3 + 3 * (n * m)) in
    let all = both_hold (leb n 16 && leb m 16 && count) (kind && growers && pilots && all_fit list) e in
    let start = both_hold (leb n 16 && leb m 16) count all.0 in
    let t₂ = both_hold (kind && growers && pilots) (all_fit list) all.1 in
    let t₁ = both_hold (kind && growers) pilots t₂.0 in
    let t₀ = both_hold kind growers t₁.0 in
    settlement_whole n m list (eqb-true _ _ start.1) (is_ok-true _ t₀.0) (is_ok-true _ t₀.1) (is_ok-true _ t₁.1)
    (all_fit_lem list t₂.1)
