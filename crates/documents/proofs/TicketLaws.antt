-- What is known of an accepted ticket: how many numbers it has, how large they are, and how many bytes they take.
use Rattle.std.specs.Prelude.{Ok}
use mathlib.Core.Path.{◌≡◌, refl, ap, ◌∙◌}
use mathlib.Core.Bool.{Bool, true, false, cond}
use mathlib.Core.List.{List, [], ◌∷◌}
use Prim.Native.Nat.{ℕ, zero, suc, ◌+◌, ◌-◌, ◌*◌, ◌%◌, ◌^◌, ◌≤◌, ◌<◌}
use native.Mathlib.Nat.{mul-le-mul, pow-le-pow_right, zero-add, add-zero, suc-add}
use native.Mathlib.Omega.{arith}
use borrow.Author.Tests.{lt-ltb, le-ltb, eqb-true}
use lib.Dec.{ltb, eqb, lit<, lit≤}
use lib.ListN.{length, get_or, take}
use lib.Seq.{length-take-le}
use Rattle.checks.specs.declared.ticket.Field.{Field}
use Rattle.checks.specs.declared.ticket.Field.TheVariants.{Kind, Growers, Pilots, Hours, TariffCap, TariffGain, TariffPay, FreeCap}
use Rattle.checks.specs.declared.ticket.Field.TheVariants.{FreeGain}
use Rattle.documents.specs.declared.State.{State}
use Rattle.checks.specs.Refusals.{ticket_refusals}
use Rattle.checks.specs.Refusals.{Checked}
use Rattle.checks.specs.TicketFaults.{amount_fault, fault_of}
use Rattle.checks.proofs.FaultLaws.{must_holds, party_range, most_of, field_range}
use Rattle.groups.specs.Groups.{encode, groups, pack}
use Rattle.documents.specs.Walk.{final}
use Rattle.documents.specs.State.{start, passed}
use Rattle.documents.specs.Ticket.{deal_field, place_field, field_of, after_of, none_for, ticket_fault, ticket_after}
use Rattle.documents.specs.Layout.{ticket}
use Rattle.groups.proofs.GroupLaws.{encode_short, pack-length}
use Rattle.documents.proofs.WalkLaws.{Good, Accepted, good_at}

-- The field of a place after the first three.
three : (p : ℕ) → suc (suc (suc p)) - 3 ≡ p
three p = omega arith

pub place_after : (n m p : ℕ) → 3 ≤ p → place_field n m p ≡ cond (ltb (p - 3) (n + m)) Hours (deal_field ((p - 3 - (n + m)) % 5))
place_after n m zero h = absurd (omega arith)
place_after n m (suc zero) h = absurd (omega arith)
place_after n m (suc (suc zero)) h = absurd (omega arith)
place_after n m (suc (suc (suc p))) h = rw (three p)

pub pair_place : (s : State) → 3 + s.growers + s.pilots ≤ s.place →
    place_field s.growers s.pilots s.place ≡ deal_field ((s.place - (3 + s.growers + s.pilots)) % 5)
pair_place s h =
    let e : s.place - 3 - (s.growers + s.pilots) ≡ s.place - (3 + s.growers + s.pilots) = omega arith in
    rw (place_after s.growers s.pilots s.place (omega arith), le-ltb (s.place - 3) (s.growers + s.pilots) (omega arith))
    (ap (λ (d : ℕ). deal_field (d % 5)) e)

-- A number checked in the field of its place.
pub checked_in : (s : State) (x : ℕ) (why : Checked) (after : State) (f : Field) → field_of s ≡ f → why ≡ fault_of f s.cap (none_for f s) x →
    after ≡ after_of f s x → (why ≡ ticket_fault s x) × (after ≡ ticket_after s x)
checked_in s x why after f e w a = rw e (w, a)

-- The field of each place before the pairs.
pub head_place : (s : State) (p : ℕ) → s.place ≡ p → field_of s ≡ place_field s.growers s.pilots p
head_place s p e = ap (place_field s.growers s.pilots) e

pub hours_place_lem : (s : State) → 3 ≤ s.place → s.place < 3 + s.growers + s.pilots → field_of s ≡ Hours
hours_place_lem s h l =
    place_after s.growers s.pilots s.place h ∙ rw (lt-ltb (s.place - 3) (s.growers + s.pilots) (omega arith))

-- A pair has its caps in the first field and in the fourth, and amounts in the others.
pub amount_fields : (k : ℕ) (s : State) (none : Bool) (x : ℕ) → (k ≡ 0 → ⊥) → (k ≡ 3 → ⊥) →
    (amount_fault s.cap x ≡ fault_of (deal_field k) s.cap none x) × (passed s ≡ after_of (deal_field k) s x)
amount_fields zero s none x h l = absurd (h refl)
amount_fields (suc zero) s none x h l = (refl, refl)
amount_fields (suc (suc zero)) s none x h l = (refl, refl)
amount_fields (suc (suc (suc zero))) s none x h l = absurd (l refl)
amount_fields (suc (suc (suc (suc k)))) s none x h l = (refl, refl)

-- The groups that the largest number of a field takes.
abbrev pub groups_of : Field → ℕ
groups_of f = cond (ltb (most_of f) 128) 1 2

-- The number fits them, and they are few enough for a file.
field_fits : (f : Field) → (most_of f < 128 ^ groups_of f) × (groups_of f ≤ groups) × (0 < groups_of f)
field_fits Kind = (lit< tt, lit≤ tt, lit< tt)
field_fits Growers = (lit< tt, lit≤ tt, lit< tt)
field_fits Pilots = (lit< tt, lit≤ tt, lit< tt)
field_fits Hours = (lit< tt, lit≤ tt, lit< tt)
field_fits TariffCap = (lit< tt, lit≤ tt, lit< tt)
field_fits TariffGain = (lit< tt, lit≤ tt, lit< tt)
field_fits TariffPay = (lit< tt, lit≤ tt, lit< tt)
field_fits FreeCap = (lit< tt, lit≤ tt, lit< tt)
field_fits FreeGain = (lit< tt, lit≤ tt, lit< tt)

pub ticket_small : (s : State) (x : ℕ) → ticket_fault s x ≡ Ok tt → x < 128 ^ groups
ticket_small s x e =
    let f = field_fits (field_of s) in
    omega (arith, field_range (field_of s) s.cap (none_for (field_of s) s) x e, f.0, pow-le-pow_right {n = 128} (omega arith) f.1)

-- The bytes of one number.
number_size : (s : State) (x : ℕ) → ticket.fault s x ≡ Ok tt → length (encode x) ≤ groups_of (field_of s)
number_size s x e =
    let f = field_fits (field_of s) in
    encode_short (groups_of (field_of s)) x f.2 (omega (arith, field_range (field_of s) s.cap (none_for (field_of s) s) x e, f.0))

-- The most bytes of k numbers from a place on: a run of hours takes one each, and the five numbers of a pair take eight.
abbrev pub room : ℕ → ℕ → ℕ → ℕ → ℕ
room n m p zero = 0
room n m p (suc k) = groups_of (place_field n m p) + room n m (p + 1) k

room_append : (n m p j k : ℕ) → room n m p (j + k) ≡ room n m p j + room n m (p + j) k
room_append n m p zero k = rw (zero-add k, add-zero p, zero-add (room n m p k))
room_append n m p (suc j) k =
    let e : p + suc j ≡ p + 1 + j = omega arith in rw (suc-add j k, e) (omega (arith, room_append n m (p + 1) j k))

room_hours : (n m p j : ℕ) → 3 ≤ p → p + j ≤ 3 + n + m → room n m p j ≡ j
room_hours n m p zero h l = refl
room_hours n m p (suc j) h l =
    rw (place_after n m p h, lt-ltb (p - 3) (n + m) (omega arith)) (omega (arith, room_hours n m (p + 1) j (omega arith) (omega arith)))

-- the number i of a pair whose first number stands at 3 + n + m + 5 * q
pub deal_place : (n m q i p : ℕ) → i < 5 → p ≡ 3 + n + m + 5 * q + i → place_field n m p ≡ deal_field i
deal_place n m q i p h e =
    let r : (p - 3 - (n + m)) % 5 ≡ i = omega arith in rw (place_after n m p (omega arith), le-ltb (p - 3) (n + m) (omega arith), r)

room_pairs : (n m k q p : ℕ) → p ≡ 3 + n + m + 5 * q → room n m p (5 * k) ≡ 8 * k
room_pairs n m zero q p e = refl
room_pairs n m (suc k) q p e =
    let f : 5 * suc k ≡ suc (suc (suc (suc (suc (5 * k))))) = omega arith in
    rw (
      f,
      deal_place n m q 0 p (lit< tt) (omega arith),
      deal_place n m q 1 (p + 1) (lit< tt) (omega arith),
      deal_place n m q 2 (p + 1 + 1) (lit< tt) (omega arith),
      deal_place n m q 3 (p + 1 + 1 + 1) (lit< tt) (omega arith),
      deal_place n m q 4 (p + 1 + 1 + 1 + 1) (lit< tt) (omega arith),
    )
    (omega (arith, room_pairs n m k (suc q) (p + 1 + 1 + 1 + 1 + 1) (omega arith)))

room_body : (n m k : ℕ) → room n m 3 (n + m + 5 * k) ≡ n + m + 8 * k
room_body n m k =
    omega (
      arith,
      room_append n m 3 (n + m) (5 * k),
      room_hours n m 3 (n + m) (omega arith) (omega arith),
      room_pairs n m k 0 (3 + (n + m)) (omega arith),
    )

-- After the third number a step changes neither n nor m.
pub record Steady (s t : State) : Type 0 where
  pub growers : t.growers ≡ s.growers
  pub pilots : t.pilots ≡ s.pilots
  pub place : t.place ≡ s.place + 1

deal_steady : (k : ℕ) (s : State) (x : ℕ) → Steady s (after_of (deal_field k) s x)
deal_steady zero s x = record { growers = refl; pilots = refl; place = refl }
deal_steady (suc zero) s x = record { growers = refl; pilots = refl; place = refl }
deal_steady (suc (suc zero)) s x = record { growers = refl; pilots = refl; place = refl }
deal_steady (suc (suc (suc zero))) s x = record { growers = refl; pilots = refl; place = refl }
deal_steady (suc (suc (suc (suc k)))) s x = record { growers = refl; pilots = refl; place = refl }

pub after_steady : (s : State) (x : ℕ) → 3 ≤ s.place → Steady s (ticket.after s x)
after_steady s x h =
    rw (place_after s.growers s.pilots s.place h)
    (go (ltb (s.place - 3) (s.growers + s.pilots)) ((s.place - 3 - (s.growers + s.pilots)) % 5))
  where
    go : (t : Bool) (k : ℕ) → Steady s (after_of (cond t Hours (deal_field k)) s x)
    go true k = record { growers = refl; pilots = refl; place = refl }
    go false k = deal_steady k s x

body_size : (s : State) (xs : List ℕ) → 3 ≤ s.place → Good ticket s xs →
    length (pack xs) ≤ room s.growers s.pilots s.place (length xs)
body_size s [] h g = omega arith
body_size s (x ∷ xs) h g =
    let k = after_steady s x h in
    let r = rw (k.growers, k.pilots, k.place) at (body_size (ticket.after s x) xs (omega (arith, k.place)) g.1) in
    omega (arith, pack-length x xs, number_size s x g.0, r)

-- An accepted ticket: its n and m, its numbers, its bytes.
pub record Shape (xs : List ℕ) (n m : ℕ) : Type 0 where
  pub kind : get_or xs 0 0 ≡ 1
  pub growers : (1 ≤ n) × (n ≤ 16)
  pub pilots : (1 ≤ m) × (m ≤ 16)
  pub count : length xs ≡ 3 + n + m + 5 * (n * m)
  pub few : length xs ≤ 1315
  pub short : length (pack xs) ≤ 2083

pub shape : (xs : List ℕ) → Accepted ticket xs → Shape xs (get_or xs 1 0) (get_or xs 2 0)
shape [] a = absurd (omega (arith, a.count))
shape (k ∷ []) a = absurd (omega (arith, a.count))
shape (k ∷ n ∷ []) a = absurd (omega (arith, a.count))
shape (k ∷ n ∷ m ∷ xs) a =
    let g = a.good in
    let hn = party_range n g.1.0 in
    let hm = party_range m g.1.1.0 in
    let q : n * m ≤ 16 * 16 = mul-le-mul hn.1 hm.1 in
    let l : length xs ≡ n + m + 5 * (n * m) = omega (arith, a.count) in
    let s₁ = ticket.after ticket.start k in
    let s₂ = ticket.after s₁ n in
    record {
      kind = eqb-true k 1 (must_holds (eqb k 1) ticket_refusals.kind g.0);
      growers = hn;
      pilots = hm;
      count = omega (arith, a.count);
      few = omega (arith, a.count);
      short =
          omega (
            arith,
            pack-length k (n ∷ m ∷ xs),
            pack-length n (m ∷ xs),
            pack-length m xs,
            number_size ticket.start k g.0,
            number_size s₁ n g.1.0,
            number_size s₂ m g.1.1.0,
            body_size (ticket.after s₂ m) xs (omega arith) g.1.1.1,
            ap (room n m 3) l,
            room_body n m (n * m),
          );
    }

-- Where a walk stands after the first three numbers.
pub record Stands (s : State) (n m p : ℕ) : Type 0 where
  pub growers : s.growers ≡ n
  pub pilots : s.pilots ≡ m
  pub place : s.place ≡ p

stands_on : (s : State) (xs : List ℕ) (n m p : ℕ) → 3 ≤ p → Stands s n m p → Stands (final ticket s xs) n m (p + length xs)
stands_on s [] n m p h t = record { growers = t.growers; pilots = t.pilots; place = omega (arith, t.place) }
stands_on s (x ∷ xs) n m p h t =
    let k = after_steady s x (omega (arith, t.place)) in
    let e : p + suc (length xs) ≡ suc p + length xs = omega arith in
    rw e
    (stands_on (ticket.after s x) xs n m (suc p) (omega arith)
    (record { growers = k.growers ∙ t.growers; pilots = k.pilots ∙ t.pilots; place = omega (arith, k.place, t.place) }))

pub stands : (k n m : ℕ) (xs : List ℕ) (q : ℕ) → q ≤ length xs →
    Stands (final ticket start (take (suc (suc (suc q))) (k ∷ n ∷ m ∷ xs))) n m (3 + q)
stands k n m xs q h =
    let e : 3 + length (take q xs) ≡ 3 + q = omega (arith, length-take-le q xs h) in
    rw (← e)
    (stands_on (ticket.after (ticket.after (ticket.after start k) n) m) (take q xs) n m 3 (omega arith)
    (record { growers = refl; pilots = refl; place = refl }))

-- Hours are at most 60.
pub ticket-hours : (k n m : ℕ) (xs : List ℕ) → Good ticket start (k ∷ n ∷ m ∷ xs) → (q : ℕ) → q < n + m → q < length xs → get_or xs q 0 ≤ 60
ticket-hours k n m xs g q h l =
    let s = final ticket start (take (suc (suc (suc q))) (k ∷ n ∷ m ∷ xs)) in
    let t = stands k n m xs q (omega arith) in
    let e = good_at ticket start (k ∷ n ∷ m ∷ xs) (suc (suc (suc q))) (omega arith) g in
    let f = hours_place_lem s (omega (arith, t.place)) (omega (arith, t.growers, t.pilots, t.place)) in
    rw f at (field_range (field_of s) s.cap (none_for (field_of s) s) (get_or xs q 0) e)
