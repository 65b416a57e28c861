-- Every reply of the operations has a small count, so its number tells it: `unpack_told`, `pack_told`, `settle_told`, `sheet_told`.
-- Assumes nothing.
use Rattle.std.specs.Prelude.{Result, Ok, Err}
use Rattle.checks.specs.declared.refusals.Refusal.{Refusal}
use mathlib.Core.Path.{◌≡◌, refl, sym, ap, ◌∙◌}
use mathlib.Core.Bool.{Bool, true, false, cond}
use mathlib.Core.Logic.{⊎_elim}
use mathlib.Core.List.{List, [], ◌∷◌}
use Prim.Native.Nat.{ℕ, zero, suc, ◌+◌, ◌*◌, ◌-◌, ◌%◌, ◌≤◌, ◌<◌}
use native.Mathlib.Omega.{arith}
use borrow.Author.Tests.{lt-ltb, le-ltb}
use mir.Syntax.{w32}
use mir.Val.{Fits}
use lib.Dec.{leb}
use lib.ListN.{length, take, get_or}
use lib.Seq.{length-take-le}
use Rattle.grid.proofs.Cases.{never, lt_or_le}
use Rattle.numbers.proofs.Products.{prod_small}
use Rattle.checks.specs.Refusals.{number_of}
use Rattle.groups.specs.Groups.{Read, Number, Ends, TooLong, Padded, raise, read_from, groups, bytes, pack}
use Rattle.reader.specs.Walk.{Outcome, read_head, form}
use Rattle.documents.specs.Walk.{Gives}
use Rattle.documents.specs.Layout.{ticket, settlement}
use Rattle.reader.specs.Answer.{unpacked, packed, packed_as, settlement_read, reply}
use Rattle.groups.proofs.GroupLaws.{read_padded, read_last, read_more}
use Rattle.documents.proofs.WalkLaws.{form_accepts}
use Rattle.documents.proofs.TicketLaws.{shape}
use Rattle.reader.proofs.Facts.{unpacked_shape, settlement_shape}
use Rattle.tables.specs.View.{growers_of, pilots_of}
use Rattle.settler.specs.Settled.{SettledIn, Answers, SettledAs, Settled, room_for}
use Rattle.sheets.specs.Sheeted.{room_for_sheet, Sheeted}
use Rattle.sheets.proofs.PrintLaws.{sheet_short, room_in_page}
use Rattle.exchange_c.specs.Replies.{reply_number, refusals, reply_of, Small, NumberOf}

-- A small count fits the number.
pub count_fits : (r : Result ℕ Refusal) (count : ℕ) → r ≡ Ok count → Small r → Fits w32 count
count_fits r count e h = let l : Small (Ok count) = rw e at h in record { fits = omega arith }

-- A refusal is the one that its number says.
refusal_told : (why : Refusal) → get_or refusals (65536 + number_of why - 65537) Refusal.BadWindow ≡ why
refusal_told Refusal.Ends = refl
refusal_told Refusal.TooLong = refl
refusal_told Refusal.Padded = refl
refusal_told Refusal.WrongKind = refl
refusal_told Refusal.PartiesOutOfRange = refl
refusal_told Refusal.HoursAboveLimit = refl
refusal_told Refusal.AboveLimit = refl
refusal_told Refusal.AmountWithoutCap = refl
refusal_told Refusal.NumbersLeft = refl
refusal_told Refusal.NoRoom = refl
refusal_told Refusal.SettlementEnds = refl
refusal_told Refusal.SettlementTooLong = refl
refusal_told Refusal.SettlementPadded = refl
refusal_told Refusal.SettlementWrongKind = refl
refusal_told Refusal.OtherParties = refl
refusal_told Refusal.SettlementNumbersLeft = refl
refusal_told Refusal.NotSound = refl
refusal_told Refusal.CapWithoutHours = refl
refusal_told Refusal.NoParty = refl
refusal_told Refusal.AgainstLimits = refl
refusal_told Refusal.NotWindows = refl
refusal_told Refusal.BadWindow = refl

-- A small reply is told by its number.
pub number_tells : (r : Result ℕ Refusal) → Small r → reply_of (reply_number r) ≡ r
number_tells (Err why) h = rw (le-ltb (65536 + number_of why) 65536 (omega arith), refusal_told why)
number_tells (Ok count) h = rw (lt-ltb count 65536 h)

pub reply_small : (room : ℕ) (o : Outcome) → ((xs : List ℕ) → o ≡ Ok xs → length xs < 65536) → Small (reply room o)
reply_small room (Err w) h = tt
reply_small room (Ok xs) h = go (leb (length xs) room)
  where
    go : (b : Bool) → Small (cond b (Ok (length xs)) (Err Refusal.NoRoom))
    go true = h xs refl
    go false = tt

-- A ticket has at most 1,315 numbers.
pub unpack_small : (room : ℕ) (s : List ℕ) → Small (reply room (unpacked s))
unpack_small room s = reply_small room (unpacked s) (λ xs e. omega (arith, (unpacked_shape s xs e).few))

-- It has at most 2,083 bytes.
packed_short : (o : Outcome) (list s : List ℕ) → form ticket read_head list ≡ o → packed_as o ≡ Ok s → length s ≤ 2083
packed_short (Err w) list s f e = never cc
packed_short (Ok xs) list s f e =
    let d : s ≡ pack xs = cc in omega (arith, ap length d, (shape xs (form_accepts ticket read_head list xs f).0).short)

pub pack_small : (room : ℕ) (list : List ℕ) → Small (reply room (packed list))
pack_small room list =
    reply_small room (packed list) (λ s e. omega (arith, packed_short (form ticket read_head list) list s refl e))

-- A number that is read has at most g bytes.
raise-rest : (v w : ℕ) (r : Read) (x : ℕ) (rest : List ℕ) → raise v w r ≡ Number x rest → (y : ℕ) × (r ≡ Number y rest)
raise-rest v w (Number y more) x rest e = (y, cc)
raise-rest v w Ends x rest e = never cc
raise-rest v w TooLong x rest e = never cc
raise-rest v w Padded x rest e = never cc

read_short : (g least : ℕ) (s : List ℕ) (x : ℕ) (rest : List ℕ) → read_from g least s ≡ Number x rest → length s ≤ g + length rest
unfolding read_from
read_short zero least s x rest e = never cc
read_short (suc g) least [] x rest e = never cc
read_short (suc g) least (b ∷ s) x rest e =
    ⊎_elim
    (λ h. ⊎_elim (λ l. never (cc (read_padded g least b s h l)))
    (λ l. let f : Number b s ≡ Number x rest = sym (read_last g least b s h l) ∙ e in
    let r : s ≡ rest = cc in omega (arith, ap length r))
    (lt_or_le b least))
    (λ h. let t = raise-rest (b % 128) 128 (read_from g 1 s) x rest (sym (read_more g least b s h) ∙ e) in
    omega (arith, read_short g 1 s t.0 rest t.1))
    (lt_or_le b 128)

-- A list that is read has at most two bytes for each number.
pub gives_short : (s xs rest : List ℕ) → Gives bytes s xs rest → length s ≤ 2 * length xs + length rest
gives_short s [] rest g = omega (arith, ap length g)
gives_short s (x ∷ xs) rest g = omega (arith, read_short groups 0 s x g.0 g.1, gives_short g.0 xs rest g.2)

-- So a settlement has at most 1,542 bytes.
pub settlement_short : (n m : ℕ) (s xs : List ℕ) → n ≤ 16 → m ≤ 16 → settlement_read n m s ≡ Ok xs → length s ≤ 1542
settlement_short n m s xs hn hm e =
    omega (
      arith,
      gives_short s xs [] (form_accepts (settlement n m) bytes s xs e).1,
      (settlement_shape n m s xs e).count,
      prod_small n m hn hm,
    )

settled_short : (t xs lent after : List ℕ) (count : ℕ) → unpacked t ≡ Ok xs → length after ≡ length lent → SettledIn t xs lent
    after count →
    count ≤ 1542
settled_short t xs lent after count e same s =
    let h = unpacked_shape t xs e in
    omega (
      arith,
      length-take-le count after (omega (arith, s.within)),
      settlement_short (growers_of xs) (pilots_of xs) (take count after) s.numbers h.growers.1 h.pilots.1 s.file,
    )

-- A settlement is short whatever buffer was lent.
pub settle_small : (t lent after : List ℕ) (r : Result ℕ Refusal) → length after ≡ length lent → Settled t lent after r → Small r
settle_small t lent after r same s = go (unpacked t) refl s
  where
    answers : (xs : List ℕ) → unpacked t ≡ Ok xs → Answers t xs lent after r → Small r
    answers xs e a = ⊎_elim
        (λ h. rw (a.short h).0.reply tt)
        (λ h. let d = a.settled h in rw d.1.reply (omega (arith, settled_short t xs lent after d.0 e same d.2)))
        (lt_or_le (length lent) (room_for xs))

    go : (o : Outcome) → unpacked t ≡ o → SettledAs t o lent after r → Small r
    go (Err w) e s = rw s.0.reply tt
    go (Ok xs) e s = answers xs e s

pub sheet_small : (t lent after : List ℕ) (r : Result ℕ Refusal) → Sheeted (unpacked t) lent after r → Small r
sheet_small t lent after r s = ⊎_elim
    (λ h. rw (s.short h).0.reply tt)
    (λ h. let d = s.printed h in
    rw d.answer.reply (omega (arith, sheet_short (unpacked t) d.text d.sheet, room_in_page t (unpacked t) refl)))
    (lt_or_le (length lent) (room_for_sheet (unpacked t)))

-- Nothing is lost: the number that C gets tells the reply.
pub unpack_told : (room : ℕ) (s : List ℕ) → reply_of (reply_number (reply room (unpacked s))) ≡ reply room (unpacked s)
unpack_told room s = number_tells (reply room (unpacked s)) (unpack_small room s)

pub pack_told : (room : ℕ) (list : List ℕ) → reply_of (reply_number (reply room (packed list))) ≡ reply room (packed list)
pack_told room list = number_tells (reply room (packed list)) (pack_small room list)

pub settle_told : (t lent after : List ℕ) (number : ℕ) → length after ≡ length lent →
    NumberOf (Settled t lent after) number → Settled t lent after (reply_of number)
settle_told t lent after number same a =
    rw (a.same, number_tells a.reply (settle_small t lent after a.reply same a.allowed)) a.allowed

pub sheet_told : (t lent after : List ℕ) (number : ℕ) → NumberOf (Sheeted (unpacked t) lent after) number →
    Sheeted (unpacked t) lent after (reply_of number)
sheet_told t lent after number a =
    rw (a.same, number_tells a.reply (sheet_small t lent after a.reply a.allowed)) a.allowed
