-- What stands in the list of a ticket whose pairs are narrowed: each pair's five numbers, and all that is before the pairs.
-- Assumes nothing.
use Prim.Native.Nat.{ℕ, zero, suc, ◌+◌, ◌*◌, ◌/◌, ◌%◌, ◌≤◌, ◌<◌}
use mathlib.Core.Bool.{true}
use mathlib.Core.Logic.{⊎_elim}
use mathlib.Core.Path.{◌≡◌, sym, subst, ap, ◌∙◌}
use mathlib.Core.List.{List}
use native.Mathlib.Nat.{div-add-mod'}
use native.Mathlib.Omega.{arith}
use borrow.Author.Tests.{lt-ltb}
use lib.ListN.{get_or, length}
use lib.Seq.{length-sets}
use Rattle.grid.proofs.Cases.{eq_or_ne}
use Rattle.grid.proofs.Places.{cell_place, inside}
use Rattle.offers.specs.declared.Terms.{Terms}
use Rattle.reader.proofs.TicketNumbers.{pair_start, Passing}
use Rattle.tables.specs.View.{growers_of, pilots_of, ticket_length}
use Rattle.ticket_calls.specs.declared.Party.TheVariants.{Grower}
use Rattle.ticket_calls.specs.Calls.{is_one, numbers_of}
use Rattle.ticket_calls.proofs.PairChanges.{terms_there, terms_other, terms_before}
use Rattle.pair_caps.specs.PairCaps.{narrowed_terms}
use Rattle.windows.specs.Narrowed.{terms_of, narrowed_pairs}
use Rattle.windows.proofs.Narrowing.{pairs-none, pairs_more, pairs_head}

-- Five numbers that are given, and five that stand in another list too.
five_given : (zs : List ℕ) (n m i j : ℕ) (t : Terms) → growers_of zs ≡ n → pilots_of zs ≡ m →
    ((a : ℕ) → a < 5 → get_or zs (pair_start n m i j + a) 0 ≡ get_or (numbers_of t) a 0) → terms_of zs i j ≡ t
five_given zs n m i j t en em f =
    rw (en, em, f 0 (omega arith), f 1 (omega arith), f 2 (omega arith), f 3 (omega arith), f 4 (omega arith))

five_same : (ys zs : List ℕ) (n m i j : ℕ) → growers_of ys ≡ n → pilots_of ys ≡ m → growers_of zs ≡ n → pilots_of zs ≡ m →
    ((a : ℕ) → a < 5 → get_or zs (pair_start n m i j + a) 0 ≡ get_or ys (pair_start n m i j + a) 0) → terms_of zs i j ≡ terms_of ys i j
five_same ys zs n m i j an am bn bm f =
    rw (an, am, bn, bm, f 0 (omega arith), f 1 (omega arith), f 2 (omega arith), f 3 (omega arith), f 4 (omega arith))

module _ (common : ℕ → ℕ → ℕ) (xs : List ℕ) (w : Passing xs) where
  abbrev n : ℕ
  n = growers_of xs

  abbrev m : ℕ
  m = pilots_of xs

  -- the list after k pairs
  abbrev after : ℕ → List ℕ
  after k = narrowed_pairs common k xs

  pub narrowed_long : (k : ℕ) → length (after k) ≡ ticket_length n m
  narrowed_long zero = ap length (pairs-none common xs) ∙ w.count
  narrowed_long (suc k) =
      ap length (pairs_more common k xs) ∙ length-sets (after k) _ (numbers_of _) ∙ narrowed_long k

  -- One pair more: it is the k-th.
  module _ (k : ℕ) (h : k < n * m) where
    abbrev i₀ : ℕ
    i₀ = k / m

    abbrev j₀ : ℕ
    j₀ = k % m

    abbrev t₀ : Terms
    t₀ = narrowed_terms (common i₀ j₀) (terms_of (after k) i₀ j₀)

    heads : (q : ℕ) → q < 3 → get_or (after k) q 0 ≡ get_or xs q 0
    heads = pairs_head common k xs

    one : is_one (Grower i₀) n m ≡ true
    one = lt-ltb i₀ n (inside n m k h).grower

    turn_before : (q : ℕ) → q < 3 + n + m → get_or (after (suc k)) q 0 ≡ get_or (after k) q 0
    turn_before q l =
        ap (λ (z : List ℕ). get_or z q 0) (pairs_more common k xs)
        ∙ terms_before (Grower i₀) (after k) n m (heads 1 (omega arith)) (heads 2 (omega arith)) (narrowed_long k) one j₀ t₀
        (inside n m k h).pilot q l

    turn_there : terms_of (after (suc k)) i₀ j₀ ≡ t₀
    turn_there = five_given (after (suc k)) n m i₀ j₀ t₀ (pairs_head common (suc k) xs 1 (omega arith))
        (pairs_head common (suc k) xs 2 (omega arith))
        (λ a l. ap (λ (z : List ℕ). get_or z (pair_start n m i₀ j₀ + a) 0) (pairs_more common k xs)
        ∙ terms_there (Grower i₀) (after k) n m (heads 1 (omega arith)) (heads 2 (omega arith)) (narrowed_long k) one j₀ t₀
        (inside n m k h).pilot a l)

    turn_here : (i j : ℕ) → (i ≡ i₀) × (j ≡ j₀) → terms_of (after (suc k)) i j ≡ narrowed_terms (common i j) (terms_of (after k) i j)
    turn_here i j e =
        subst (λ (a : ℕ). terms_of (after (suc k)) a j ≡ narrowed_terms (common a j) (terms_of (after k) a j)) (sym e.0)
        (subst (λ (b : ℕ). terms_of (after (suc k)) i₀ b ≡ narrowed_terms (common i₀ b) (terms_of (after k) i₀ b)) (sym e.1) turn_there)

    turn_other : (i j : ℕ) → i < n → j < m → ((i ≡ i₀) × (j ≡ j₀) → ⊥) → terms_of (after (suc k)) i j ≡ terms_of (after k) i j
    turn_other i j hi hj ne = five_same (after k) (after (suc k)) n m i j (heads 1 (omega arith)) (heads 2 (omega arith))
        (pairs_head common (suc k) xs 1 (omega arith)) (pairs_head common (suc k) xs 2 (omega arith))
        (λ a l. ap (λ (z : List ℕ). get_or z (pair_start n m i j + a) 0) (pairs_more common k xs)
        ∙ terms_other (Grower i₀) (after k) n m (heads 1 (omega arith)) (heads 2 (omega arith)) (narrowed_long k) one j₀ t₀
        (inside n m k h).pilot i j hi hj ne a l)

  -- A pair whose turn has not come, and one whose turn has.
  pub narrowed_before : (k : ℕ) → k ≤ n * m → (q : ℕ) → q < 3 + n + m → get_or (after k) q 0 ≡ get_or xs q 0
  narrowed_before zero h q l = ap (λ (z : List ℕ). get_or z q 0) (pairs-none common xs)
  narrowed_before (suc k) h q l = turn_before k (omega arith) q l ∙ narrowed_before k (omega arith) q l

  module _ (i j : ℕ) (hi : i < n) (hj : j < m) where
    -- the pair is the k-th exactly where its grower and its pilot are
    same_place : (k : ℕ) → i * m + j ≡ k → (i ≡ k / m) × (j ≡ k % m)
    same_place k e = let p = cell_place m i j hj in (sym p.0 ∙ ap (λ (q : ℕ). q / m) e, sym p.1 ∙ ap (λ (q : ℕ). q % m) e)

    same-pair : (k : ℕ) → (i ≡ k / m) × (j ≡ k % m) → i * m + j ≡ k
    same-pair k e = rw (e.0, e.1) (div-add-mod' k m)

    pub waiting : (k : ℕ) → k ≤ i * m + j → k ≤ n * m → terms_of (after k) i j ≡ terms_of xs i j
    waiting zero l h = ap (λ (z : List ℕ). terms_of z i j) (pairs-none common xs)
    waiting (suc k) l h =
        turn_other k (omega arith) i j hi hj (λ e. omega (arith, same-pair k e)) ∙ waiting k (omega arith) (omega arith)

    pub narrowed_turn : (k : ℕ) → i * m + j < k → k ≤ n * m → terms_of (after k) i j ≡ narrowed_terms (common i j) (terms_of xs i j)
    narrowed_turn zero l h = absurd (omega arith)
    narrowed_turn (suc k) l h = ⊎_elim
        (λ e. turn_here k (omega arith) i j (same_place k e)
        ∙ ap (narrowed_terms (common i j)) (waiting k (omega arith) (omega arith)))
        (λ ne. turn_other k (omega arith) i j hi hj (λ e. ne (same-pair k e)) ∙ narrowed_turn k (omega (arith, ne)) (omega arith))
        (eq_or_ne (i * m + j) k)
