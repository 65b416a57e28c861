-- The pairs of a ticket narrowed one after another: each is a call that is accepted, so what it leaves passes the ticket's checks.
-- Assumes nothing.
use Rattle.std.specs.Prelude.{Ok}
use Prim.Native.Nat.{ℕ, zero, suc, ◌+◌, ◌*◌, ◌/◌, ◌%◌, ◌≤◌, ◌<◌}
use mathlib.Core.Bool.{true}
use mathlib.Core.Path.{◌≡◌, refl, sym, subst, ap, ◌∙◌}
use mathlib.Core.List.{List}
use native.Mathlib.Nat.{add-zero}
use native.Mathlib.Numerals.{add-one}
use native.Mathlib.Omega.{arith}
use borrow.Author.Tests.{le-leb, lt-ltb}
use lib.ListN.{get_or}
use Rattle.grid.proofs.Places.{cell_place, inside}
use Rattle.offers.specs.declared.Terms.{Terms}
use Rattle.reader.proofs.TicketNumbers.{pair_start, Passing, deal_passes, which_zero}
use Rattle.tables.specs.View.{growers_of, pilots_of, ticket_front}
use Rattle.ticket_calls.specs.declared.Party.TheVariants.{Grower, Pilot}
use Rattle.ticket_calls.specs.Calls.{Call, SetPair, is_in, refusal_of, after}
use Rattle.ticket_calls.proofs.ChangeLaws.{terms_head}
use Rattle.ticket_calls.proofs.RefusalLaws.{terms_pass_lem, none_of_pair, after_accepted}
use Rattle.ticket_calls.proofs.TicketChanges.{changed_passing}
use Rattle.ticket_calls.proofs.Fronts.{front_growers, front_pilots, pair_number}
use Rattle.ticket_calls.proofs.InFront.{after_in-front}
use Rattle.window_lists.specs.Windows.{common_hours}
use Rattle.pair_caps.specs.PairCaps.{narrowed_terms}
use Rattle.windows.specs.Narrowed.{terms_of, narrowed_pair, narrowed_pairs, narrowed}
use Rattle.windows.specs.Held.{InFront, Holds, pair_call}
use Rattle.windows.proofs.TermLaws.{IsDeal, narrowed_deal}

-- A pair of a ticket that passes its checks.
module _ (xs : List ℕ) (w : Passing xs) (i j : ℕ) (hi : i < growers_of xs) (hj : j < pilots_of xs) where
  pub terms_deal : IsDeal (terms_of xs i j)
  terms_deal = rw (add-zero (pair_start (growers_of xs) (pilots_of xs) i j)) (w.deal i j hi hj)

  grower_in : is_in (Grower i) xs ≡ true
  grower_in = rw (le-leb (growers_of xs) 16 w.growers.1, le-leb (pilots_of xs) 16 w.pilots.1, lt-ltb i (growers_of xs) hi)

  pilot_in : is_in (Pilot j) xs ≡ true
  pilot_in = rw (le-leb (growers_of xs) 16 w.growers.1, le-leb (pilots_of xs) 16 w.pilots.1, lt-ltb j (pilots_of xs) hj)

  -- Whoever has no hours has no caps, which are not raised.
  none_left : (common : ℕ) → none_of_pair (Grower i) (Pilot j) (terms_of xs i j) xs ≡ true →
      ((narrowed_terms common (terms_of xs i j)).tariff_cap ≡ 0) × ((narrowed_terms common (terms_of xs i j)).free_cap ≡ 0)
  none_left common e =
      let z = w.none i j hi hj (which_zero _ _ e) in
      let first : (terms_of xs i j).tariff_cap ≡ 0 = rw (add-zero (pair_start (growers_of xs) (pilots_of xs) i j)) z.0 in
      (omega (arith, first), omega (arith, z.1))

  pub narrowed_accepted : (common : ℕ) → refusal_of (pair_call i j common xs) xs ≡ Ok tt
  narrowed_accepted common =
      terms_pass_lem (Grower i) (Pilot j) (narrowed_terms common (terms_of xs i j)) xs grower_in pilot_in
      (deal_passes _ _ _ _ _ _ (narrowed_deal common (terms_of xs i j) terms_deal) (none_left common))

-- The five numbers of a pair stand in the list as they stand in the ticket in front of it.
front_terms : (list : List ℕ) (i j : ℕ) → i < growers_of list → j < pilots_of list → terms_of list i j ≡ terms_of (ticket_front list) i j
front_terms list i j hi hj =
    rw (
      pair_number list 0 i j (omega arith) hi hj,
      pair_number list 1 i j (omega arith) hi hj,
      pair_number list 2 i j (omega arith) hi hj,
      pair_number list 3 i j (omega arith) hi hj,
      pair_number list 4 i j (omega arith) hi hj,
    )

-- No pair changes the first three numbers, so that the same growers and pilots are in the list.
pub pairs-none : (common : ℕ → ℕ → ℕ) (xs : List ℕ) → narrowed_pairs common 0 xs ≡ xs
unfolding narrowed_pairs
pairs-none common xs = refl

pub pairs_more : (common : ℕ → ℕ → ℕ) (k : ℕ) (xs : List ℕ) →
    narrowed_pairs common (suc k) xs ≡ narrowed_pair common (k / pilots_of xs) (k % pilots_of xs) (narrowed_pairs common k xs)
unfolding narrowed_pairs
pairs_more common k xs = refl

pub pairs_head : (common : ℕ → ℕ → ℕ) (k : ℕ) (xs : List ℕ) (q : ℕ) → q < 3 → get_or (narrowed_pairs common k xs) q 0 ≡ get_or xs q 0
pairs_head common zero xs q h = ap (λ (l : List ℕ). get_or l q 0) (pairs-none common xs)
pairs_head common (suc k) xs q h =
    ap (λ (l : List ℕ). get_or l q 0) (pairs_more common k xs)
    ∙ terms_head (Grower (k / pilots_of xs)) (k % pilots_of xs) _ (narrowed_pairs common k xs) q h
    ∙ pairs_head common k xs q h

-- One pair more, in a list with the ticket in front.
module _ (common : ℕ → ℕ → ℕ) (xs : List ℕ) (i j : ℕ) (hi : i < growers_of xs) (hj : j < pilots_of xs) where
  abbrev ys : List ℕ
  ys = narrowed_pairs common (i * pilots_of xs + j) xs

  same_growers_lem : growers_of ys ≡ growers_of xs
  same_growers_lem = pairs_head common (i * pilots_of xs + j) xs 1 (omega arith)

  same_pilots_lem : pilots_of ys ≡ pilots_of xs
  same_pilots_lem = pairs_head common (i * pilots_of xs + j) xs 2 (omega arith)

  next-pair : narrowed_pairs common (i * pilots_of xs + j + 1) xs ≡ narrowed_pair common i j ys
  next-pair =
      let p = cell_place (pilots_of xs) i j hj in
      rw (add-one (i * pilots_of xs + j)) (pairs_more common (i * pilots_of xs + j) xs ∙ rw (p.0, p.1))

  pub pair_in_front : (list after' : List ℕ) (hours : ℕ) → hours ≡ common i j → InFront ys list →
      after' ≡ after (pair_call i j hours list) list →
      InFront (narrowed_pairs common (i * pilots_of xs + j + 1) xs) after'
  pair_in_front list after' hours e here f =
      subst (InFront (narrowed_pairs common (i * pilots_of xs + j + 1) xs)) (sym g)
      (subst (λ (l : List ℕ). InFront l (after call list)) (sym (next-pair ∙ sym accepted)) (after_in-front call ys list here))
    where
      hi' : i < growers_of ys
      hi' = omega (arith, same_growers_lem, hi)

      hj' : j < pilots_of ys
      hj' = omega (arith, same_pilots_lem, hj)

      call : Call
      call = pair_call i j (common i j) ys

      accepted : after call ys ≡ narrowed_pair common i j ys
      accepted = after_accepted call ys (narrowed_accepted ys here.passing i j hi' hj' (common i j))

      same_terms : terms_of list i j ≡ terms_of ys i j
      same_terms =
          front_terms list i j (omega (arith, front_growers list, ap growers_of here.front, hi'))
          (omega (arith, front_pilots list, ap pilots_of here.front, hj'))
          ∙ ap (λ (l : List ℕ). terms_of l i j) here.front

      g : after' ≡ after call list
      g =
          f
          ∙ ap (λ (t : Terms). after (SetPair i j t) list)
          (ap (λ (h : ℕ). narrowed_terms h (terms_of list i j)) e ∙ ap (narrowed_terms (common i j)) same_terms)

-- The ticket passes its checks after every pair.
pub pairs_passing : (common : ℕ → ℕ → ℕ) (xs : List ℕ) → Passing xs → (k : ℕ) → k ≤ growers_of xs * pilots_of xs →
    Passing (narrowed_pairs common k xs)
pairs_passing common xs w zero h = rw (pairs-none common xs) w
pairs_passing common xs w (suc k) h =
    let p = inside (growers_of xs) (pilots_of xs) k (omega arith) in
    let i = k / pilots_of xs in
    let j = k % pilots_of xs in
    let ys = narrowed_pairs common k xs in
    let before = pairs_passing common xs w k (omega arith) in
    subst Passing (sym (pairs_more common k xs))
    (changed_passing (pair_call i j (common i j) ys) ys before
    (narrowed_accepted ys before i j (omega (arith, pairs_head common k xs 1 (omega arith), p.grower))
    (omega (arith, pairs_head common k xs 2 (omega arith), p.pilot)) (common i j)))

-- A list in front of which the first k pairs of the ticket xs, of n growers and m pilots, are narrowed to everybody's windows.
pub record PairsIn (windows xs : List ℕ) (n m k : ℕ) (list : List ℕ) : Type 0 where
  pub growers : n ≡ growers_of xs
  pub pilots : m ≡ pilots_of xs
  pub here : InFront (narrowed_pairs (common_hours windows n) k xs) list

pub pairs_start : (windows list : List ℕ) (n m : ℕ) → Holds list → n ≡ growers_of list → m ≡ pilots_of list →
    PairsIn windows (ticket_front list) n m 0 list
pairs_start windows list n m h en em = record {
  growers = en ∙ sym (front_growers list);
  pilots = em ∙ sym (front_pilots list);
  here = rw (pairs-none (common_hours windows n) (ticket_front list)) h;
}

pub pairs-at : (windows xs : List ℕ) (n m k l : ℕ) (list : List ℕ) → k ≡ l → PairsIn windows xs n m k list → PairsIn windows xs n m l list
pairs-at windows xs n m k l list e p = rw e at p

module _ (windows xs : List ℕ) (n m k : ℕ) (list : List ℕ) (p : PairsIn windows xs n m k list) where
  pub few_growers : n ≤ 16
  few_growers =
      omega (arith, p.growers, pairs_head (common_hours windows n) k xs 1 (omega arith), p.here.passing.growers.1)

  pub few_pilots : m ≤ 16
  few_pilots = omega (arith, p.pilots, pairs_head (common_hours windows n) k xs 2 (omega arith), p.here.passing.pilots.1)

pub pairs_turn : (windows xs : List ℕ) (n m i j hours : ℕ) (list next : List ℕ) → i < n → j < m → hours ≡ common_hours windows n i j →
    next ≡ after (pair_call i j hours list) list → PairsIn windows xs n m (i * m + j) list →
    PairsIn windows xs n m (i * m + j + 1) next
pairs_turn windows xs n m i j hours list next hi hj e f p = record {
  growers = p.growers;
  pilots = p.pilots;
  here =
      let there = rw p.pilots at p.here in
      rw p.pilots
      (pair_in_front (common_hours windows n) xs i j (omega (arith, p.growers)) (omega (arith, p.pilots)) list next hours e there f);
}

pub pairs_end : (windows xs : List ℕ) (n m i : ℕ) (list : List ℕ) → i ≡ n → PairsIn windows xs n m (i * m) list →
    InFront (narrowed windows xs) list
pairs_end windows xs n m i list e p = rw (e, p.growers, p.pilots) at p.here
