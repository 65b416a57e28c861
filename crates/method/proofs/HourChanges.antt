-- Changes of a cell, as changes of the market's held hours.
-- Assumes nothing.
use Prim.Native.Nat.{ℕ, zero, suc, ◌+◌, ◌-◌, ◌≤◌, ◌<◌}
use mathlib.Core.Path.{◌≡◌, refl, sym, ◌∙◌, ap, subst}
use mathlib.Core.List.{List, []}
use mathlib.Core.Logic.{◌⊎◌, ⊎_elim, inl, inr}
use native.Mathlib.Decide.{ℕ_discrete}
use native.Mathlib.Omega.{arith}
use lib.ListN.{get_or, set, length, replicate, length-set, get_or-replicate}
use lib.Seq.{get_or-set_same, get_or-set_other}
use Rattle.grid.proofs.Cases.{by_index, eq_or_ne}
use Rattle.market.specs.declared.Deal.{Deal}
use Rattle.market.specs.declared.Deal.TheVariants.{Tariff, Free}
use Rattle.market.specs.Method.{Slot, by_tariff, old_free, new_free, slot_for}
use Rattle.market.specs.Steps.{SameExcept, here, same, Added}
use Rattle.offers.specs.declared.Agreed.{Agreed}
use Rattle.method.specs.View.{no_hours, agreed_in, agreed_at, hours_held, held_in}
use Rattle.method.specs.LateHours.{late_slot}
use Rattle.method.specs.Changes.{Full, put_cell, MoreHeld, aged_pair, Aged}

module _ (held : List (List Agreed)) (full : Full held) (i j : ℕ) (hi : i < 16) (hj : j < 16) (agreed : Agreed) where
  row_put : get_or (put_cell held i j agreed) i [] ≡ set (get_or held i []) j agreed
  row_put = get_or-set_same held i (set (get_or held i []) j agreed) [] (omega (arith, full.high))

  pub put_there : agreed_at (put_cell held i j agreed) i j ≡ agreed
  put_there = rw row_put (get_or-set_same (get_or held i []) j agreed no_hours (omega (arith, full.wide i hi)))

  put_in_row : (l : ℕ) → (l ≡ j → ⊥) → agreed_at (put_cell held i j agreed) i l ≡ agreed_at held i l
  put_in_row l ne = rw row_put (get_or-set_other (get_or held i []) j l agreed no_hours ne)

  put-below : (k l : ℕ) → (k ≡ i → ⊥) → agreed_at (put_cell held i j agreed) k l ≡ agreed_at held k l
  put-below k l ne = ap (λ (row : List Agreed). agreed_in row l) (get_or-set_other held i k (set (get_or held i []) j agreed) [] ne)

  pub put_beside : (k l : ℕ) → (l ≡ j → ⊥) → agreed_at (put_cell held i j agreed) k l ≡ agreed_at held k l
  put_beside k l ne = ⊎_elim
      (λ e. subst (λ (r : ℕ). agreed_at (put_cell held i j agreed) r l ≡ agreed_at held r l) (sym e) (put_in_row l ne))
      (λ n. put-below k l n) (eq_or_ne k i)

  pub put_elsewhere : (k l : ℕ) → (k ≡ i → l ≡ j → ⊥) → agreed_at (put_cell held i j agreed) k l ≡ agreed_at held k l
  put_elsewhere k l ne = ⊎_elim (λ e. put_beside k l (ne e)) (λ n. put-below k l n) (eq_or_ne k i)

  pub put_full : Full (put_cell held i j agreed)
  put_full = record {
    high = length-set held i (set (get_or held i []) j agreed) ∙ full.high;
    wide = by_index (λ k. k < 16 → length (get_or (put_cell held i j agreed) k []) ≡ 16) i
        (λ h. ap length row_put ∙ length-set (get_or held i []) j agreed ∙ full.wide i h)
        (λ k ne h. ap length (get_or-set_other held i k (set (get_or held i []) j agreed) [] ne) ∙ full.wide k h);
  }

-- Two squares that differ in one cell, where one pair holds x more hours in one way.
module _ (held held' : List (List Agreed)) (i j x : ℕ) (q : Slot) (more : MoreHeld (agreed_at held i j) (agreed_at held' i j) q x)
    (rest : (k l : ℕ) → (k ≡ i → l ≡ j → ⊥) → agreed_at held' k l ≡ agreed_at held k l) where
  same_cell : (r : Slot) → SameExcept (held_in held) (held_in held') q i j r i j
  same_cell r =
      ⊎_elim (λ e. subst (λ (s : Slot). SameExcept (held_in held) (held_in held') q i j s i j) (sym e) here) (λ e. same e) (more.rest r)

  pub more_added : Added (held_in held) (held_in held') q i j x
  more_added = record {
    there = more.there;
    rest = λ r k l. elim (ℕ_discrete k i) [
      | yes e ↦ elim (ℕ_discrete l j) [
        | yes f ↦ rw (e, f) (same_cell r)
        | no n ↦ same (ap (λ (p : Agreed). hours_held p r) (rest k l (λ _ f. n f)))
      ]
      | no n ↦ same (ap (λ (p : Agreed). hours_held p r) (rest k l (λ e _. n e)))
    ];
  }

-- One pair with more hours, or fewer.
module _ (agreed : Agreed) (d : Deal) (x : ℕ) where
  abbrev more_tariff : Agreed
  more_tariff = record { by_tariff = agreed.by_tariff + x; old_free = agreed.old_free; new_free = agreed.new_free }

  pub more_tariff_lem : d ≡ Tariff →
      MoreHeld agreed more_tariff (slot_for d) x
  more_tariff_lem e = rw e (record { there = refl; rest = rest })
    where
      rest : (r : Slot) → (r ≡ by_tariff) ⊎
          (hours_held more_tariff r ≡ hours_held agreed r)
      rest by_tariff = inl refl
      rest old_free = inr refl
      rest new_free = inr refl

  abbrev more_free : Agreed
  more_free = record { by_tariff = agreed.by_tariff; old_free = agreed.old_free; new_free = agreed.new_free + x }

  pub more_free_lem : d ≡ Free →
      MoreHeld agreed more_free (slot_for d) x
  more_free_lem e = rw e (record { there = refl; rest = rest })
    where
      rest : (r : Slot) → (r ≡ new_free) ⊎
          (hours_held more_free r ≡ hours_held agreed r)
      rest by_tariff = inr refl
      rest old_free = inr refl
      rest new_free = inl refl

  abbrev fewer_tariff : Agreed
  fewer_tariff = record { by_tariff = agreed.by_tariff - x; old_free = agreed.old_free; new_free = agreed.new_free }

  pub fewer_tariff_lem : d ≡ Tariff → x ≤ hours_held agreed (late_slot d) →
      MoreHeld fewer_tariff agreed (late_slot d) x
  fewer_tariff_lem e h = let le = rw e at h in rw e (record { there = omega arith; rest = rest })
    where
      rest : (r : Slot) → (r ≡ by_tariff) ⊎
          (hours_held agreed r ≡ hours_held fewer_tariff r)
      rest by_tariff = inl refl
      rest old_free = inr refl
      rest new_free = inr refl

  abbrev fewer_free : Agreed
  fewer_free = record { by_tariff = agreed.by_tariff; old_free = agreed.old_free - x; new_free = agreed.new_free }

  pub fewer-free : d ≡ Free → x ≤ hours_held agreed (late_slot d) →
      MoreHeld fewer_free agreed (late_slot d) x
  fewer-free e h = let le = rw e at h in rw e (record { there = omega arith; rest = rest })
    where
      rest : (r : Slot) → (r ≡ old_free) ⊎
          (hours_held agreed r ≡ hours_held fewer_free r)
      rest by_tariff = inr refl
      rest old_free = inl refl
      rest new_free = inr refl

-- The cell of grower i and pilot j gets x more hours, or x fewer.
module _ (held : List (List Agreed)) (full : Full held) (i j x : ℕ) (hi : i < 16) (hj : j < 16) (agreed : Agreed) (q : Slot)
    (held' : List (List Agreed)) (e : held' ≡ put_cell held i j agreed) where
  pub put_more : MoreHeld (agreed_at held i j) agreed q x → Full held' × Added (held_in held) (held_in held') q i j x
  put_more more = rw e (
    put_full held full i j hi hj agreed,
    more_added held (put_cell held i j agreed) i j x q (rw (put_there held full i j hi hj agreed) more)
        (put_elsewhere held full i j hi hj agreed),
  )

  pub put-fewer : MoreHeld agreed (agreed_at held i j) q x → Full held' × Added (held_in held') (held_in held) q i j x
  put-fewer more = rw e (
    put_full held full i j hi hj agreed,
    more_added (put_cell held i j agreed) held i j x q (rw (put_there held full i j hi hj agreed) more)
        (λ k l ne. sym (put_elsewhere held full i j hi hj agreed k l ne)),
  )

-- Ageing, one grower after another.
pub aged_none : (held : List (List Agreed)) (j : ℕ) → Aged held held j 0
aged_none held j = record { past = λ i h. absurd (omega arith); ahead = λ i h. refl; beside = λ i l ne. refl }

module _ (held held' : List (List Agreed)) (full : Full held') (j k : ℕ) (hk : k < 16) (hj : j < 16) (s : Aged held held' j k)
    (agreed : Agreed) (is : agreed ≡ aged_pair (agreed_at held' k j)) where
  pub aged_more : Aged held (put_cell held' k j agreed) j (k + 1)
  aged_more = record {
    past = by_index (λ i. i < k + 1 → agreed_at (put_cell held' k j agreed) i j ≡ aged_pair (agreed_at held i j)) k
        (λ _. put_there held' full k j hk hj agreed ∙ is ∙ ap aged_pair (s.ahead k (omega arith)))
        (λ i ne h. put_elsewhere held' full k j hk hj agreed i j (λ e _. ne e) ∙ s.past i (omega arith));
    ahead = λ i h. put_elsewhere held' full k j hk hj agreed i j (λ e _. omega arith) ∙ s.ahead i (omega arith);
    beside = λ i l ne. put_beside held' full k j hk hj agreed i l ne ∙ s.beside i l ne;
  }

pub aged_end : (held held' : List (List Agreed)) (j k l : ℕ) → k ≡ l → Aged held held' j k → Aged held held' j l
aged_end held held' j k l e s = rw (sym e) s

-- Where no pair holds an hour, there is none in any way.
module _ (held : List (List Agreed)) (none : (i j : ℕ) → agreed_at held i j ≡ no_hours) where
  pub nothing_held : (q : Slot) (i j : ℕ) → held_in held q i j ≡ 0
  nothing_held by_tariff i j = ap (λ (p : Agreed). hours_held p by_tariff) (none i j)
  nothing_held old_free i j = ap (λ (p : Agreed). hours_held p old_free) (none i j)
  nothing_held new_free i j = ap (λ (p : Agreed). hours_held p new_free) (none i j)

-- A square of the same row, in which nobody holds an hour.
module _ (row : List Agreed) (none : (j : ℕ) → agreed_in row j ≡ no_hours) where
  none_held : (n i j : ℕ) → agreed_at (replicate n row) i j ≡ no_hours
  none_held zero i j = refl
  none_held (suc n) zero j = none j
  none_held (suc n) (suc i) j = none_held n i j

  pub no_hours_lem : length row ≡ 16 → Full (replicate 16 row) × ((i j : ℕ) → agreed_at (replicate 16 row) i j ≡ no_hours)
  no_hours_lem l = (record { high = refl; wide = λ i h. rw (get_or-replicate 16 i row [] h) l }, none_held 16)
