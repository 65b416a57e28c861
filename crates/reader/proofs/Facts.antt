-- What the crates above cite: packing and reading undo one another, what an accepted ticket or settlement is, and what an operation leaves.
use Rattle.std.specs.Prelude.{Ok, Err}
use Rattle.checks.specs.declared.refusals.Refusal.{Refusal}
use mathlib.Core.Path.{◌≡◌, refl, sym, ap, ◌∙◌}
use mathlib.Core.Logic.{◌⊎◌, ⊎_elim}
use mathlib.Core.List.{List, [], ◌∷◌, ◌++◌}
use Prim.Native.Nat.{ℕ, zero, suc, ◌+◌, ◌*◌, ◌≤◌, ◌<◌}
use native.Mathlib.Nat.{zero-add, mul-le-mul, mul-le-mul_right, suc-mul}
use native.Mathlib.Omega.{arith}
use borrow.Author.Tests.{le-leb, lt-leb}
use lib.Dec.{lit<}
use lib.ListN.{length, get_or, take, drop, get_or-append}
use lib.Seq.{sets, sets-eq, take_at}
use Rattle.checks.specs.declared.refusals.Document.{Document}
use Rattle.checks.proofs.HourLaws.{none_of-pair}
use Rattle.groups.specs.Groups.{Bytes, groups, bytes, pack}
use Rattle.documents.specs.Walk.{Outcome, read_head, form}
use Rattle.documents.specs.Layout.{form_of, ticket, settlement}
use Rattle.reader.specs.Answer.{unpacked, packed, packed_as, settlement_read, settlement_packed, counted, reply, kept}
use Rattle.grid.proofs.Cases.{never, lt_or_le}
use Rattle.documents.proofs.WalkLaws.{Accepted, form_accepts, accepts_form}
use Rattle.documents.proofs.Undoing.{unpacked_packs, packed_unpacks, head_whole}
use Rattle.documents.proofs.TicketLaws.{Shape, shape, ticket-hours}
use Rattle.documents.proofs.PairLaws.{Deal, ticket_deal, ticket-none}
use Rattle.documents.proofs.SettlementLaws.{SettlementShape, accepted_settlement, settlement_accepts, settlement_short}
use Rattle.documents.proofs.LayoutLaws.{number_small}

-- Undoing, for either document.
received_delivers : (p : Document) (s xs : List ℕ) → Bytes s → form (form_of p) bytes s ≡ Ok xs →
    packed_as (form (form_of p) read_head xs) ≡ Ok s
received_delivers p s xs w e =
    let r = unpacked_packs (form_of p) groups (lit< tt) (number_small p) s xs w e in rw r.1 (ap (λ (s : List ℕ). Ok s) (sym r.0))

delivered_receives : (p : Document) (list s : List ℕ) → packed_as (form (form_of p) read_head list) ≡ Ok s →
    form (form_of p) bytes s ≡ Ok list
delivered_receives p list s e = go (form (form_of p) read_head list) refl e
  where
    go : (o : Outcome) → form (form_of p) read_head list ≡ o → packed_as o ≡ Ok s → form (form_of p) bytes s ≡ Ok list
    go (Err w) f e = never cc
    go (Ok xs) f e =
        let r = packed_unpacks (form_of p) groups (lit< tt) (number_small p) list xs f in
        let d : s ≡ pack xs = cc in
        rw (d, r.0) r.1

-- Packing a ticket that was unpacked gives its bytes back, and unpacking one that was packed gives its numbers back.
pub unpacked-packed : (s xs : List ℕ) → Bytes s → unpacked s ≡ Ok xs → packed xs ≡ Ok s
unpacked-packed = received_delivers Document.Ticket

pub packed-unpacked : (list s : List ℕ) → packed list ≡ Ok s → unpacked s ≡ Ok list
packed-unpacked = delivered_receives Document.Ticket

-- The same for settlements.
pub settlement_read-packed : (n m : ℕ) (s xs : List ℕ) → Bytes s → settlement_read n m s ≡ Ok xs → settlement_packed n m xs ≡ Ok s
settlement_read-packed n m = received_delivers (Document.Settlement n m)

pub settlement-packed_read : (n m : ℕ) (list s : List ℕ) → settlement_packed n m list ≡ Ok s → settlement_read n m s ≡ Ok list
settlement-packed_read n m = delivered_receives (Document.Settlement n m)

-- An unpacked ticket: 1 to 16 growers and pilots, 3 + n + m + 5nm numbers, at most 1,315, and at most 2,083 bytes.
pub unpacked_shape : (s xs : List ℕ) → unpacked s ≡ Ok xs → Shape xs (get_or xs 1 0) (get_or xs 2 0)
unpacked_shape s xs e = shape xs (form_accepts ticket bytes s xs e).0

pub unpacked-length : (s xs : List ℕ) → Bytes s → unpacked s ≡ Ok xs → length s ≤ 2083
unpacked-length s xs w e =
    let r = unpacked_packs ticket groups (lit< tt) (number_small Document.Ticket) s xs w e in
    omega (arith, ap length r.0, (unpacked_shape s xs e).short)

-- Everybody's hours are at most 60: the growers' from place 3 on, then the pilots'.
accepted_hours : (xs : List ℕ) → Accepted ticket xs → (p : ℕ) → 3 ≤ p → p < 3 + get_or xs 1 0 + get_or xs 2 0 → get_or xs p 0 ≤ 60
accepted_hours [] a p h l = absurd (omega (arith, a.count))
accepted_hours (k ∷ []) a p h l = absurd (omega (arith, a.count))
accepted_hours (k ∷ n ∷ []) a p h l = absurd (omega (arith, a.count))
accepted_hours (k ∷ n ∷ m ∷ xs) a p h l = later p h l
  where
    later : (p : ℕ) → 3 ≤ p → p < 3 + n + m → get_or (k ∷ n ∷ m ∷ xs) p 0 ≤ 60
    later zero h l = absurd (omega arith)
    later (suc zero) h l = absurd (omega arith)
    later (suc (suc zero)) h l = absurd (omega arith)
    later (suc (suc (suc q))) h l = ticket-hours k n m xs a.good q (omega arith) (omega (arith, a.count))

pub unpacked-hours : (s xs : List ℕ) → unpacked s ≡ Ok xs → (p : ℕ) → 3 ≤ p → p < 3 + get_or xs 1 0 + get_or xs 2 0 → get_or xs p 0 ≤ 60
unpacked-hours s xs e p h l = accepted_hours xs (form_accepts ticket bytes s xs e).0 p h l

-- A pair's place among the pairs is below their number.
pub pair-below : (n m i j : ℕ) → i < n → j < m → i * m + j < n * m
pair-below n m i j h l = omega (arith, suc-mul i m, mul-le-mul_right m h)

-- The five numbers of grower i and pilot j.
abbrev pub DealAt : List ℕ → ℕ → Type 0
DealAt xs p = Deal (get_or xs p 0) (get_or xs (p + 1) 0) (get_or xs (p + 2) 0) (get_or xs (p + 3) 0) (get_or xs (p + 4) 0)

accepted_deal : (xs : List ℕ) → Accepted ticket xs → (q : ℕ) → q < get_or xs 1 0 * get_or xs 2 0 →
    DealAt xs (3 + get_or xs 1 0 + get_or xs 2 0 + 5 * q)
accepted_deal [] a q h = absurd (omega (arith, a.count))
accepted_deal (k ∷ []) a q h = absurd (omega (arith, a.count))
accepted_deal (k ∷ n ∷ []) a q h = absurd (omega (arith, a.count))
accepted_deal (k ∷ n ∷ m ∷ xs) a q h =
    let r = n + m + 5 * q in
    let e : 3 + n + m + 5 * q ≡ suc (suc (suc r)) = omega arith in
    let e₁ : suc (suc (suc r)) + 1 ≡ suc (suc (suc (r + 1))) = omega arith in
    let e₂ : suc (suc (suc r)) + 2 ≡ suc (suc (suc (r + 2))) = omega arith in
    let e₃ : suc (suc (suc r)) + 3 ≡ suc (suc (suc (r + 3))) = omega arith in
    let e₄ : suc (suc (suc r)) + 4 ≡ suc (suc (suc (r + 4))) = omega arith in
    rw (e, e₁, e₂, e₃, e₄) (ticket_deal k n m xs a.good q r refl (omega (arith, a.count)))

pub unpacked_deal : (s xs : List ℕ) → unpacked s ≡ Ok xs → (i j : ℕ) → i < get_or xs 1 0 → j < get_or xs 2 0 →
    DealAt xs (3 + get_or xs 1 0 + get_or xs 2 0 + 5 * (i * get_or xs 2 0 + j))
unpacked_deal s xs e i j h l =
    accepted_deal xs (form_accepts ticket bytes s xs e).0 (i * get_or xs 2 0 + j) (pair-below (get_or xs 1 0) (get_or xs 2 0) i j h l)

-- A grower or a pilot without hours has no caps.
accepted_none : (xs : List ℕ) → Accepted ticket xs → (i j : ℕ) → i < get_or xs 1 0 → j < get_or xs 2 0 →
    (get_or xs (3 + i) 0 ≡ 0) ⊎ (get_or xs (3 + get_or xs 1 0 + j) 0 ≡ 0) →
    (p : ℕ) → p ≡ 3 + get_or xs 1 0 + get_or xs 2 0 + 5 * (i * get_or xs 2 0 + j) → (get_or xs p 0 ≡ 0) × (get_or xs (p + 3) 0 ≡ 0)
accepted_none [] a i j hi hj none p e = absurd (omega (arith, a.count))
accepted_none (k ∷ []) a i j hi hj none p e = absurd (omega (arith, a.count))
accepted_none (k ∷ n ∷ []) a i j hi hj none p e = absurd (omega (arith, a.count))
accepted_none (k ∷ n ∷ m ∷ xs) a i j hi hj none p e =
    let r = n + m + 5 * (i * m + j) in
    let h = pair-below n m i j hi hj in
    let sh = shape (k ∷ n ∷ m ∷ xs) a in
    let e₀ : p ≡ suc (suc (suc r)) = omega arith in
    let e₃ : suc (suc (suc r)) + 3 ≡ suc (suc (suc (r + 3))) = omega arith in
    let eᵢ : 3 + i ≡ suc (suc (suc i)) = omega arith in
    let eⱼ : 3 + n + j ≡ suc (suc (suc (n + j))) = omega arith in
    rw (e₀, e₃)
    (ticket-none k n m xs a.good (omega (arith, sh.growers.1, sh.pilots.1)) (i * m + j) r h refl (omega (arith, a.count))
    (none_of-pair xs n m i j hj (rw (eᵢ, eⱼ) at none)))

pub unpacked-none : (s xs : List ℕ) → unpacked s ≡ Ok xs → (i j : ℕ) → i < get_or xs 1 0 → j < get_or xs 2 0 →
    (get_or xs (3 + i) 0 ≡ 0) ⊎ (get_or xs (3 + get_or xs 1 0 + j) 0 ≡ 0) →
    (p : ℕ) → p ≡ 3 + get_or xs 1 0 + get_or xs 2 0 + 5 * (i * get_or xs 2 0 + j) → (get_or xs p 0 ≡ 0) × (get_or xs (p + 3) 0 ≡ 0)
unpacked-none s xs e = accepted_none xs (form_accepts ticket bytes s xs e).0

-- A settlement that was read: kind 2, the ticket's n and m, three numbers for each pair, each below 16,384.
pub settlement_shape : (n m : ℕ) (s xs : List ℕ) → settlement_read n m s ≡ Ok xs → SettlementShape xs n m
settlement_shape n m s xs e = accepted_settlement n m xs (form_accepts (settlement n m) bytes s xs e).0

pub settlement_few : (n m : ℕ) (xs : List ℕ) → SettlementShape xs n m → n ≤ 16 → m ≤ 16 → length xs ≤ 771
settlement_few n m xs a h k = let q : n * m ≤ 16 * 16 = mul-le-mul h k in omega (arith, a.count)

-- Hours of one byte and pay of two: three bytes, and four for each pair.
pub settlement-bytes : (n m : ℕ) (xs : List ℕ) → SettlementShape xs n m → n < 128 → m < 128 →
    ((q : ℕ) → q < n * m → (get_or xs (3 + 3 * q) 0 < 128) × (get_or xs (4 + 3 * q) 0 < 128)) → length (pack xs) ≤ 3 + 4 * (n * m)
settlement-bytes = settlement_short

-- Ok of that shape are accepted: they are packed, and their bytes are read back.
pub settlement_accepted : (n m : ℕ) (xs : List ℕ) → SettlementShape xs n m →
    (settlement_packed n m xs ≡ Ok (pack xs)) × (settlement_read n m (pack xs) ≡ Ok xs)
settlement_accepted n m xs a =
    let e = accepts_form (settlement n m) read_head xs xs (settlement_accepts n m xs a) (head_whole xs) in
    (rw e, (packed_unpacks (settlement n m) groups (lit< tt) (number_small (Document.Settlement n m)) xs xs e).1)

-- What is written stands in front, and places beyond it keep their content.
pub written_front : (lent xs : List ℕ) → length xs ≤ length lent → sets lent 0 xs ≡ xs ++ drop (length xs) lent
written_front lent xs h = rw (zero-add (length xs)) at (sets-eq xs lent 0 (omega arith))

-- The answer and the lent list where there is room, and where there is not.
pub reply-with_room : (room : ℕ) (xs : List ℕ) → length xs ≤ room → reply room (Ok xs) ≡ Ok (length xs)
reply-with_room room xs h = rw (le-leb (length xs) room h)

pub reply_without_room : (room : ℕ) (xs : List ℕ) → room < length xs → reply room (Ok xs) ≡ Err Refusal.NoRoom
reply_without_room room xs h = rw (lt-leb (length xs) room h)

-- Where every outcome has room, a lack of it is never answered.
pub reply_fits : (room : ℕ) (o : Outcome) → ((xs : List ℕ) → o ≡ Ok xs → length xs ≤ room) → reply room o ≡ counted o
reply_fits room (Err w) h = refl
reply_fits room (Ok xs) h = reply-with_room room xs (h xs refl)

pub unpacked_fits : (room : ℕ) (s : List ℕ) → 1315 ≤ room → reply room (unpacked s) ≡ counted (unpacked s)
unpacked_fits room s h = reply_fits room (unpacked s) (λ xs e. omega (arith, (unpacked_shape s xs e).few))

pub settlement_fits : (room n m : ℕ) (s : List ℕ) → n ≤ 16 → m ≤ 16 → 771 ≤ room →
    reply room (settlement_read n m s) ≡ counted (settlement_read n m s)
settlement_fits room n m s hn hm h =
    reply_fits room (settlement_read n m s) (λ xs e. omega (arith, settlement_few n m xs (settlement_shape n m s xs e) hn hm))

pub kept-with_room : (lent xs : List ℕ) → length xs ≤ length lent → kept lent (Ok xs) ≡ xs ++ drop (length xs) lent
kept-with_room lent xs h = rw (le-leb (length xs) (length lent) h) (written_front lent xs h)

pub kept-front : (lent xs : List ℕ) → length xs ≤ length lent → take (length xs) (kept lent (Ok xs)) ≡ xs
kept-front lent xs h = rw (kept-with_room lent xs h) (take_at xs (drop (length xs) lent) (length xs) refl)

pub kept_number : (lent xs : List ℕ) (i : ℕ) → length xs ≤ length lent → i < length xs → get_or (kept lent (Ok xs)) i 0 ≡ get_or xs i 0
kept_number lent xs i h l = rw (kept-with_room lent xs h) (get_or-append xs (drop (length xs) lent) 0 i l)

pub kept_without_room : (lent xs : List ℕ) → length lent < length xs → kept lent (Ok xs) ≡ lent
kept_without_room lent xs h = rw (lt-leb (length xs) (length lent) h)

-- What an operation that is done has written, and what one that has room refuses.
pub reply_done : (o : Outcome) (lent : List ℕ) (count : ℕ) → Ok count ≡ reply (length lent) o →
    (xs : List ℕ) × (o ≡ Ok xs) × (take count (kept lent o) ≡ xs)
reply_done (Err w) lent count e = never cc
reply_done (Ok xs) lent count e = ⊎_elim
    (λ h. never (cc (e ∙ reply_without_room (length lent) xs h)))
    (λ h. let d : Ok count ≡ Ok (length xs) = e ∙ reply-with_room (length lent) xs h in
    let k : count ≡ length xs = cc in
    (xs, refl, ap (λ (n : ℕ). take n (kept lent (Ok xs))) k ∙ kept-front lent xs h))
    (lt_or_le (length lent) (length xs))

pub reply_refused : (room : ℕ) (o : Outcome) (w : Refusal) → ((xs : List ℕ) → o ≡ Ok xs → length xs ≤ room) →
    Err w ≡ reply room o → o ≡ Err w
reply_refused room (Err v) w fits e = let d : w ≡ v = cc in ap (λ (v : Refusal). Err v) (sym d)
reply_refused room (Ok xs) w fits e = never (cc (e ∙ reply-with_room room xs (fits xs refl)))
