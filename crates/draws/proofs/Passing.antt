-- What is drawn passes the ticket's checks.
-- Assumes nothing.
use Rattle.std.specs.Prelude.{Result, Ok, Err}
use Rattle.checks.specs.declared.refusals.Refusal.{Refusal}
use mathlib.Core.Path.{◌≡◌, refl, sym, ap, ◌∙◌}
use mathlib.Core.Bool.{Bool, true, false, cond}
use mathlib.Core.List.{List, ◌++◌}
use Prim.Native.Nat.{ℕ, zero, suc, ◌+◌, ◌*◌, ◌-◌, ◌/◌, ◌%◌, ◌≤◌, ◌<◌}
use native.Mathlib.Omega.{arith}
use borrow.Author.Tests.{lt-ltb, le-leb, leb-true}
use lib.Dec.{leb, eqb, lit<}
use lib.ListN.{length}
use lib.Seq.{sets}
use Rattle.checks.specs.Refusals.{ticket_refusals, must, first}
use Rattle.checks.specs.TicketFaults.{party_fault, amount_fault, cap_fault}
use Rattle.checks.specs.Hours.{noted_all, none_of, none_in}
use Rattle.checks.proofs.HourLaws.{none-noted}
use Rattle.groups.specs.Groups.{pack}
use Rattle.reader.specs.Walk.{read_head}
use Rattle.documents.specs.Layout.{ticket}
use Rattle.reader.specs.Answer.{packed, reply, Tells, kept}
use Rattle.documents.proofs.WalkLaws.{Good, Accepted, accepts_form}
use Rattle.documents.proofs.Undoing.{head_whole}
use Rattle.reader.proofs.Telling.{tells, refuses}
use Rattle.grid.proofs.EveryLaws.{both_hold}
use Rattle.reader.proofs.Facts.{reply-with_room, reply_without_room, kept_without_room}
use Rattle.documents.proofs.TicketLaws.{Stands, place_after, deal_place}
use Rattle.draws.specs.Generator as generator
use Rattle.draws.specs.Drawn.{hours_from, cap_from, drawn_hours, drawn_pairs, ticket_from}
use Rattle.draws.specs.Drawn.{in_range, both_in_range, drawn, Passes}
use Rattle.draws.proofs.Storing.{hours-length, ticket-length}

-- An amount that is small, and 0 without a cap, has no fault.
amount_good : (cap x : ℕ) → x ≤ 500 → amount_fault cap (cond (eqb cap 0) 0 x) ≡ Ok tt
amount_good cap x h = go (eqb cap 0)
  where
    go : (b : Bool) → first (must (leb (cond b 0 x) 500) Refusal.AboveLimit) (cond b (must (eqb (cond b 0 x) 0) Refusal.AmountWithoutCap) (Ok tt)) ≡ Ok tt
    go true = refl
    go false = rw (le-leb x 500 h)

-- A cap is small, and 0 in a deal of somebody without hours.
cap_good : (none : Bool) (x : ℕ) → cap_fault none (cap_from none x) ≡ Ok tt
cap_good true x = refl
cap_good false x = rw (le-leb (x % 8 - 1) 60 (omega arith))

hours_good : (n m k x : ℕ) (ys : List ℕ) (s : ticket.State) (p : ℕ) → Stands s n m p → 3 ≤ p → p + k ≡ 3 + n + m →
    ((t : ticket.State) → Stands t n m (3 + n + m) → t.without ≡ noted_all s.without (drawn_hours k x) → Good ticket t ys) →
    Good ticket s (drawn_hours k x ++ ys)
hours_good n m zero x ys s p t h e later =
    later s (record { growers = t.growers; pilots = t.pilots; place = omega (arith, t.place) }) refl
hours_good n m (suc k) x ys s p t h e later =
    rw (t.growers, t.pilots, t.place, place_after n m p h, lt-ltb (p - 3) (n + m) (omega arith)) (
      rw (le-leb (hours_from x) 60 (omega arith)),
      hours_good n m k (generator.next x) ys _ (p + 1) (record { growers = refl; pilots = refl; place = refl }) (omega arith)
          (omega arith) later,
    )

pairs_good : (none : ℕ → Bool) (n m k x q : ℕ) (s : ticket.State) → s.growers ≡ n → s.pilots ≡ m → s.place ≡ 3 + n + m + 5 * q →
    ((p : ℕ) → p < q + k → none_of s.without n m p ≡ none p) → Good ticket s (drawn_pairs none q k x)
pairs_good none n m zero x q s eg ep e same = tt
pairs_good none n m (suc k) x q s eg ep e same =
    let p = s.place in
    let here : (p - 3 - (n + m)) / 5 ≡ q = omega arith in
    rw (
      eg,
      ep,
      deal_place n m q 0 p (lit< tt) (omega arith),
      deal_place n m q 1 (p + 1) (lit< tt) (omega arith),
      deal_place n m q 2 (p + 1 + 1) (lit< tt) (omega arith),
      deal_place n m q 3 (p + 1 + 1 + 1) (lit< tt) (omega arith),
      deal_place n m q 4 (p + 1 + 1 + 1 + 1) (lit< tt) (omega arith),
      here,
      same q (omega arith),
    ) (
      cap_good (none q) x,
      (
        amount_good (cap_from (none q) x) _ (omega arith),
        (
          amount_good (cap_from (none q) x) _ (omega arith),
          (
            cap_good (none q) (generator.after 3 x),
            (
              amount_good (cap_from (none q) (generator.after 3 x)) _ (omega arith),
              pairs_good none n m k (generator.after 5 x) (q + 1) _ refl refl (omega arith) (λ r h. same r (omega arith)),
            ),
          ),
        ),
      ),
    )

party_good : (x : ℕ) → 1 ≤ x → x ≤ 16 → party_fault ticket_refusals.parties x ≡ Ok tt
party_good x h l = rw (le-leb 1 x h, le-leb x 16 l)

drawn_accepted : (n m x : ℕ) → 1 ≤ n → n ≤ 16 → 1 ≤ m → m ≤ 16 → Accepted ticket (ticket_from n m x)
drawn_accepted n m x hn ln hm lm = let hours = drawn_hours (n + m) x in record {
  good = (
    refl,
    (
      party_good n hn ln,
      (
        party_good m hm lm,
        hours_good n m (n + m) x (drawn_pairs (none_in hours n m) 0 (n * m) (generator.after (n + m) x)) _ 3
            (record { growers = refl; pilots = refl; place = refl }) (omega arith) (omega arith)
            (λ t r w. pairs_good (none_in hours n m) n m (n * m) (generator.after (n + m) x) 0 t r.growers r.pilots
            (omega (arith, r.place))
            (λ p h. rw w (none-noted hours n m p (hours-length (n + m) x) (omega arith) (omega arith)))),
      ),
    ),
  );
  count = ticket-length n m x ∙ omega arith;
}

pub ticket_passes_lem : (n m x : ℕ) → 1 ≤ n → n ≤ 16 → 1 ≤ m → m ≤ 16 → packed (ticket_from n m x) ≡ Ok (pack (ticket_from n m x))
ticket_passes_lem n m x hn ln hm lm =
    let xs = ticket_from n m x in
    let e = accepts_form ticket read_head xs xs (drawn_accepted n m x hn ln hm lm) (head_whole xs) in
    rw e

range_holds : (x : ℕ) → in_range x ≡ true → (1 ≤ x) × (x ≤ 16)
range_holds x e = let h = both_hold (leb 1 x) (leb x 16) e in (leb-true 1 x h.0, leb-true x 16 h.1)

-- What is delivered: a ticket's numbers, if there is room for them.
module _ (n m x pairs : ℕ) (lent : List ℕ) (p : pairs ≡ n * m) where
  abbrev numbers : List ℕ
  numbers = ticket_from n m x

  abbrev pub Delivers : List ℕ → Result ℕ Refusal → Type 0
  Delivers after r = (r ≡ reply (length lent) (Ok (ticket_from n m x))) × (after ≡ kept lent (Ok (ticket_from n m x)))

  pub no_room_delivers : length lent < 3 + n + m + 5 * pairs → Delivers lent (Err Refusal.NoRoom)
  no_room_delivers h =
      let l : length lent < length numbers = omega (arith, ticket-length n m x, p) in
      (sym (reply_without_room (length lent) numbers l), sym (kept_without_room lent numbers l))

  pub filled_delivers : (after : List ℕ) → 3 + n + m + 5 * pairs ≤ length lent → after ≡ sets lent 0 (ticket_from n m x) →
      Delivers after (Ok (3 + n + m + 5 * pairs))
  filled_delivers after h f =
      let l : length numbers ≤ length lent = omega (arith, ticket-length n m x, p) in
      let c : 3 + n + m + 5 * pairs ≡ length numbers = omega (arith, ticket-length n m x, p) in
      (ap (λ (k : ℕ). Ok k) c ∙ sym (reply-with_room (length lent) numbers l), f ∙ rw (le-leb (length numbers) (length lent) l))

-- What drawing answers and leaves, and that it passes.
abbrev pub Answers : ℕ → ℕ → ℕ → List ℕ → List ℕ → Result ℕ Refusal → Type 0
Answers seed n m lent after r =
    Tells r (length lent) (drawn seed n m) × ((after ≡ kept lent (drawn seed n m)) × Passes (drawn seed n m))

pub out_of_range_answers : (seed n m : ℕ) (lent : List ℕ) → both_in_range n m ≡ false → Answers seed n m lent lent (Err Refusal.PartiesOutOfRange)
out_of_range_answers seed n m lent e = rw e (refuses _ Refusal.PartiesOutOfRange refl, (refl, tt))

pub both_in_range_lem : (n m : ℕ) → both_in_range n m ≡ true → ((1 ≤ n) × (n ≤ 16)) × ((1 ≤ m) × (m ≤ 16))
both_in_range_lem n m e = let h = both_hold (in_range n) (in_range m) e in (range_holds n h.0, range_holds m h.1)

pub delivered_answers : (seed n m x : ℕ) (lent after : List ℕ) (r : Result ℕ Refusal) → both_in_range n m ≡ true → x ≡ generator.start seed →
    r ≡ reply (length lent) (Ok (ticket_from n m x)) → after ≡ kept lent (Ok (ticket_from n m x)) → Answers seed n m lent after r
delivered_answers seed n m x lent after r e s d k =
    let h = both_in_range_lem n m e in
    rw (e, ← s) (tells r (length lent) (Ok (ticket_from n m x)) d, (k, ticket_passes_lem n m x h.0.0 h.0.1 h.1.0 h.1.1))
