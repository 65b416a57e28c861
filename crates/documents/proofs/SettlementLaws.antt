-- Laws of the settlement's places: what has no fault is short, and after the first three places nothing else is refused.
use mathlib.Core.Path.{◌≡◌, refl, sym, ap, ◌∙◌}
use mathlib.Core.List.{List, [], ◌∷◌}
use Prim.Native.Nat.{ℕ, zero, suc, ◌+◌, ◌*◌, ◌≤◌, ◌<◌}
use native.Mathlib.Omega.{arith}
use borrow.Author.Tests.{eq-eqb, eqb-true}
use lib.Dec.{eqb, lit<}
use lib.ListN.{length, get_or}
use Rattle.documents.specs.declared.State.{State}
use Rattle.checks.specs.Refusals.{settlement_refusals}
use Rattle.groups.specs.Groups.{pack}
use Rattle.documents.specs.State.{start, passed}
use Rattle.documents.specs.Settlement.{place_after, settlement_after}
use Rattle.documents.specs.Layout.{settlement}
use Rattle.groups.proofs.GroupLaws.{encode_short, pack-length}
use Rattle.documents.proofs.WalkLaws.{Good, Accepted}
use Rattle.checks.proofs.FaultLaws.{must_holds, settlement_passes_lem, settlement_clear, pair_fault_lem}

pub pair-after : (p : ℕ) (s : State) (x : ℕ) → 3 ≤ p → place_after p s x ≡ passed s
pair-after zero s x h = absurd (omega arith)
pair-after (suc zero) s x h = absurd (omega arith)
pair-after (suc (suc zero)) s x h = absurd (omega arith)
pair-after (suc (suc (suc p))) s x h = refl

-- The state after a number, where the place is known.
pub after_place : (p : ℕ) (s : State) (x : ℕ) (r : State) → s.place ≡ p → r ≡ place_after p s x → r ≡ place_after s.place s x
after_place p s x r e f = f ∙ ap (λ (q : ℕ). place_after q s x) (sym e)

-- What a settlement of a ticket with n growers and m pilots is, as numbers.
pub record SettlementShape (xs : List ℕ) (n m : ℕ) : Type 0 where
  pub count : length xs ≡ 3 + 3 * (n * m)
  pub kind : get_or xs 0 0 ≡ 2
  pub growers : get_or xs 1 0 ≡ n
  pub pilots : get_or xs 2 0 ≡ m
  pub small : (i : ℕ) → get_or xs i 0 < 16384

good_small : (n m : ℕ) (s : State) (xs : List ℕ) → Good (settlement n m) s xs → (i : ℕ) → get_or xs i 0 < 16384
good_small n m s [] g i = lit< tt
good_small n m s (x ∷ xs) g zero = (settlement_passes_lem n m s.place x g.0).0
good_small n m s (x ∷ xs) g (suc i) = good_small n m (settlement_after s x) xs g.1 i

pub accepted_settlement : (n m : ℕ) (xs : List ℕ) → Accepted (settlement n m) xs → SettlementShape xs n m
accepted_settlement n m [] a = absurd (omega (arith, a.count))
accepted_settlement n m (k ∷ []) a = absurd (omega (arith, a.count))
accepted_settlement n m (k ∷ x ∷ []) a = absurd (omega (arith, a.count))
accepted_settlement n m (k ∷ x ∷ y ∷ xs) a =
    let g = a.good in
    let s₁ = settlement_after start k in
    let s₂ = settlement_after s₁ x in
    let px = (settlement_passes_lem n m 1 x g.1.0).1 in
    let py = (settlement_passes_lem n m 2 y g.1.1.0).1 in
    let ex : x ≡ n = eqb-true x n (must_holds (eqb x n) settlement_refusals.parties px) in
    let ey : y ≡ m = eqb-true y m (must_holds (eqb y m) settlement_refusals.parties py) in
    let c : suc (suc (suc (length xs))) ≡ 3 + 3 * (x * y) = a.count in
    record {
      count = rw (← ex, ← ey) c;
      kind = eqb-true k 2 (must_holds (eqb k 2) settlement_refusals.kind (settlement_passes_lem n m 0 k g.0).1);
      growers = ex;
      pilots = ey;
      small = good_small n m start (k ∷ x ∷ y ∷ xs) g;
    }

pairs_good : (n m : ℕ) (s : State) (xs : List ℕ) → 3 ≤ s.place → ((i : ℕ) → get_or xs i 0 < 16384) → Good (settlement n m) s xs
pairs_good n m s [] h w = tt
pairs_good n m s (x ∷ xs) h w =
    let e = ap (λ (t : State). t.place) (pair-after s.place s x h) in (
      settlement_clear n m s.place x (w 0) (pair_fault_lem n m s.place x h),
      pairs_good n m (settlement_after s x) xs (omega (arith, e)) (λ i. w (suc i)),
    )

pub settlement_accepts : (n m : ℕ) (xs : List ℕ) → SettlementShape xs n m → Accepted (settlement n m) xs
settlement_accepts n m [] a = absurd (omega (arith, a.count))
settlement_accepts n m (k ∷ []) a = absurd (omega (arith, a.count))
settlement_accepts n m (k ∷ x ∷ []) a = absurd (omega (arith, a.count))
settlement_accepts n m (k ∷ x ∷ y ∷ xs) a =
    let ex : x ≡ n = a.growers in
    let ey : y ≡ m = a.pilots in
    let s₁ = settlement_after start k in
    let s₂ = settlement_after s₁ x in
    let c : suc (suc (suc (length xs))) ≡ 3 + 3 * (n * m) = a.count in
    record {
      good = (
        settlement_clear n m 0 k (a.small 0) (rw (eq-eqb k 2 a.kind)),
        (
          settlement_clear n m 1 x (a.small 1) (rw (eq-eqb x n ex)),
          (
            settlement_clear n m 2 y (a.small 2) (rw (eq-eqb y m ey)),
            pairs_good n m (settlement_after s₂ y) xs (omega arith) (λ i. a.small (suc (suc (suc i)))),
          ),
        ),
      );
      count = rw (ex, ey) c;
    }

-- The bytes of pairs whose first two numbers have one group each.
triples_short : (k : ℕ) (xs : List ℕ) → length xs ≡ 3 * k → ((q : ℕ) → q < k → (get_or xs (3 * q) 0 < 128) × (get_or xs (1 + 3 * q) 0 < 128)) →
    ((i : ℕ) → get_or xs i 0 < 16384) → length (pack xs) ≤ 4 * k
triples_short k [] e h w = omega arith
triples_short k (a ∷ []) e h w = absurd (omega arith)
triples_short k (a ∷ b ∷ []) e h w = absurd (omega arith)
triples_short zero (a ∷ b ∷ c ∷ xs) e h w = absurd (omega arith)
triples_short (suc k) (a ∷ b ∷ c ∷ xs) e h w =
    omega (
      arith,
      pack-length a (b ∷ c ∷ xs),
      pack-length b (c ∷ xs),
      pack-length c xs,
      encode_short 1 a (omega arith) (h 0 (omega arith)).0,
      encode_short 1 b (omega arith) (h 0 (omega arith)).1,
      encode_short 2 c (omega arith) (w 2),
      triples_short k xs (omega arith) later (λ i. w (suc (suc (suc i)))),
    )
  where
    later : (q : ℕ) → q < k → (get_or xs (3 * q) 0 < 128) × (get_or xs (1 + 3 * q) 0 < 128)
    later q l =
        let e₀ : 3 * suc q ≡ suc (suc (suc (3 * q))) = omega arith in
        let e₁ : 1 + 3 * suc q ≡ suc (suc (suc (1 + 3 * q))) = omega arith in
        let r = h (suc q) (omega arith) in
        (rw e₀ at r.0, rw e₁ at r.1)

pub settlement_short : (n m : ℕ) (xs : List ℕ) → SettlementShape xs n m → n < 128 → m < 128 →
    ((q : ℕ) → q < n * m → (get_or xs (3 + 3 * q) 0 < 128) × (get_or xs (4 + 3 * q) 0 < 128)) → length (pack xs) ≤ 3 + 4 * (n * m)
settlement_short n m [] a hn hm h = omega arith
settlement_short n m (k ∷ []) a hn hm h = absurd (omega (arith, a.count))
settlement_short n m (k ∷ x ∷ []) a hn hm h = absurd (omega (arith, a.count))
settlement_short n m (k ∷ x ∷ y ∷ xs) a hn hm h =
    omega (
      arith,
      pack-length k (x ∷ y ∷ xs),
      pack-length x (y ∷ xs),
      pack-length y xs,
      encode_short 1 k (omega arith) (omega (arith, a.kind)),
      encode_short 1 x (omega arith) (omega (arith, a.growers)),
      encode_short 1 y (omega arith) (omega (arith, a.pilots)),
      triples_short (n * m) xs (omega (arith, a.count)) later (λ i. a.small (suc (suc (suc i)))),
    )
  where
    later : (q : ℕ) → q < n * m → (get_or xs (3 * q) 0 < 128) × (get_or xs (1 + 3 * q) 0 < 128)
    later q l =
        let e₀ : 3 + 3 * q ≡ suc (suc (suc (3 * q))) = omega arith in
        let e₁ : 4 + 3 * q ≡ suc (suc (suc (1 + 3 * q))) = omega arith in
        let r = h q l in
        (rw e₀ at r.0, rw e₁ at r.1)
