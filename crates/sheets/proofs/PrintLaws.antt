-- From a ticket's bytes to its sheet: what the steps may assume, the answers that cannot come, and the copy into the lent buffer.
-- Assumes nothing.
use mathlib.Core.Path.{◌≡◌, refl, sym, ap, ◌∙◌}
use Rattle.std.specs.Prelude.{Result, Ok, Err}
use mathlib.Core.List.{List, [], ◌∷◌, ◌++◌}
use Prim.Native.Nat.{ℕ, ◌≤◌, ◌<◌}
use native.Mathlib.Omega.{arith}
use lib.ListN.{length, take, drop, length-append}
use lib.Seq.{length-sets, take_at}
use Rattle.grid.specs.Front.{front}
use Rattle.grid.proofs.Cases.{never}
use Rattle.numbers.proofs.Products.{prod_small}
use Rattle.checks.specs.declared.refusals.Refusal.{Refusal}
use Rattle.checks.specs.Refusals.{number_of}
use Rattle.reader.specs.Walk.{Outcome}
use Rattle.reader.specs.Answer.{unpacked, settlement_read, reply}
use Rattle.reader.proofs.Telling.{refuses, counts}
use Rattle.reader.proofs.Facts.{unpacked_shape, settlement_shape, settlement_few, reply-with_room, reply_refused, written_front}
use Rattle.verdicts.specs.declared.Verdict.{Verdict}
use Rattle.tables.specs.View.{growers_of, pilots_of, ticket_of, settlement_of}
use Rattle.marker.specs.Verdict.{judged}
use Rattle.verdicts.specs.Values.{verdict_count}
use Rattle.marker.specs.Marked.{marked}
use Rattle.settler.specs.Settled.{SettledIn, Settled}
use Rattle.settler.proofs.Answering.{not_refused, done_settled}
use Rattle.sheets.specs.Page.{page_bytes}
use Rattle.ascii.specs.Writing.{Wrote}
use Rattle.sheets.specs.Sheet.{head_of, lines_of, last_of, sheet_text}
use Rattle.ascii.specs.Lines.{refused_text}
use Rattle.sheets.specs.Sheeted.{IsSheet, room_for_sheet, SheetIn, Sheeted}
use Rattle.sheets.specs.Printing.{Settles, Together, SoundFile, Printed}
use Rattle.ascii.proofs.LineLaws.{line_short}
use Rattle.sheets.proofs.SheetLaws.{lines_short, few_growers, few_pilots, all_deals_marked, all_deals_judged}

-- No sheet is longer than the room that is asked for it.
settled_short : (xs ys : List ℕ) → length (sheet_text xs ys) ≤ room_for_sheet (Ok xs)
settled_short xs ys =
    omega (
      arith,
      length-append (head_of xs ++ lines_of xs ys) (last_of xs ys),
      length-append (head_of xs) (lines_of xs ys),
      line_short (growers_of xs ∷ pilots_of xs ∷ []),
      line_short (verdict_count (judged (ticket_of xs) (settlement_of ys)) ∷ []),
      lines_short xs ys,
    )

pub sheet_short : (o : Outcome) (text : List ℕ) → IsSheet o text → length text ≤ room_for_sheet o
sheet_short (Err w) text i = omega (arith, ap length i)
sheet_short (Ok xs) text i = omega (arith, ap length i.same, settled_short xs i.numbers)

-- A page has that room for every ticket.
pub refusal_in_page : (w : Refusal) → room_for_sheet (Err w) ≤ page_bytes
refusal_in_page w = omega (arith, line_short (number_of w ∷ []))

pub room_in_page : (ticket : List ℕ) (o : Outcome) → unpacked ticket ≡ o → room_for_sheet o ≤ page_bytes
room_in_page ticket (Err w) e = refusal_in_page w
room_in_page ticket (Ok xs) e =
    let h = unpacked_shape ticket xs e in
    omega (arith, prod_small (growers_of xs) (pilots_of xs) h.growers.1 h.pilots.1)

-- The settlement's file is read: no refusal, and the list is that of the sound settlement.
module _ {ticket xs file : List ℕ} (f : SoundFile ticket xs file) (n m : ℕ) (en : n ≡ growers_of xs) (em : m ≡ pilots_of xs) where
  reads : settlement_read n m file ≡ Ok f.numbers
  reads = rw (en, em) f.settles.read

  pub file_not_refused : {A : Type 0} (zeros : List ℕ) (w : Refusal) → length zeros ≡ 771 → Err w ≡ reply (length zeros)
      (settlement_read n m file) → A
  file_not_refused zeros w long e =
      let few = settlement_few n m f.numbers (settlement_shape n m file f.numbers reads)
      (omega (arith, en, few_growers f.settles)) (omega (arith, em, few_pilots f.settles)) in
      let done = e ∙ ap (reply (length zeros)) reads ∙ reply-with_room (length zeros) f.numbers (omega (arith, few, long)) in
      never cc

  module _ (list : List ℕ) (read : settlement_read n m file ≡ Ok list) where
    list_settles : Settles ticket xs file list
    list_settles =
        let e : Ok f.numbers ≡ Ok list = sym reads ∙ read in
        let same : f.numbers ≡ list = cc in
        rw same at f.settles

    pub read_together : (count : ℕ) → ((k w : ℕ) → marked ticket file ≡ Verdict.Sound k w → count ≡ k) → Together xs list count
    read_together count h = record {
      paired = record { ticket = ticket; file = file; settles = list_settles };
      marks = h _ _ (all_deals_marked list_settles) ∙ sym (ap verdict_count (all_deals_judged list_settles));
    }

    pub printed_settled : {page page₁ : List ℕ} {end : ℕ} → Wrote page page₁ 0 end (sheet_text xs list) → Printed (Ok xs) page page₁ end
    printed_settled w = record {
      text = sheet_text xs list;
      sheet = record { file = file; numbers = list; read = list_settles.read; good = list_settles.good; same = refl };
      wrote = w;
    }

-- The ticket is settled: no refusal, and what was written is the file of a sound settlement.
module _ (ticket xs lent after : List ℕ) (r : Result ℕ Refusal) (e : unpacked ticket ≡ Ok xs) (long : length lent ≡ 1027)
    (s : Settled ticket lent after r) where
  pub settle_not_refused : {A : Type 0} (w : Refusal) → r ≡ Err w → A
  settle_not_refused w f =
      let h = unpacked_shape ticket xs e in
      absurd (not_refused ticket xs lent after e w
      (omega (arith, long, prod_small (growers_of xs) (pilots_of xs) h.growers.1 h.pilots.1)) (rw f at s))

  module _ (count : ℕ) (f : r ≡ Ok count) where
    inside : SettledIn ticket xs lent after count
    inside = done_settled ticket xs lent after e count (rw f at s)

    pub settlement_sound : SoundFile ticket xs (take count after)
    settlement_sound = record {
      numbers = inside.numbers;
      settles = record { unpacks = e; read = inside.file; good = inside.good };
    }

-- The page is copied if there is room.
pub sheeted_short : (o : Outcome) (lent : List ℕ) → length lent < room_for_sheet o → Sheeted o lent lent (Err Refusal.NoRoom)
sheeted_short o lent h = record { short = λ _. (refuses _ Refusal.NoRoom refl, refl); printed = λ l. absurd (omega arith) }

module _ {o : Outcome} {blank page : List ℕ} {end : ℕ} (p : Printed o blank page end) (long : length blank ≡ page_bytes) where
  end_is : end ≡ length p.text
  end_is = omega (arith, p.wrote.ends)

  short_enough : length p.text ≤ room_for_sheet o
  short_enough = sheet_short o p.text p.sheet

  pub page_long : page_bytes ≡ length page
  page_long = omega (arith, long, ap length p.wrote.stored, length-sets blank 0 p.text)

  module _ (fits : room_for_sheet o ≤ page_bytes) where
    pub end_within : (room : ℕ) → room_for_sheet o ≤ room → (end ≤ length page) × (end ≤ room)
    end_within room h = (omega (arith, end_is, short_enough, page_long), omega (arith, end_is, short_enough))

    front_is : take end page ≡ p.text
    front_is =
        ap (take end) (p.wrote.stored ∙ written_front blank p.text (omega (arith, short_enough, long)))
        ∙ take_at p.text (drop (length p.text) blank) end (sym end_is)

    pub sheeted_copied : (lent after : List ℕ) → room_for_sheet o ≤ length lent → after ≡ front page end lent →
        Sheeted o lent after (Ok end)
    sheeted_copied lent after h f = record {
      short = λ l. absurd (omega arith);
      printed = λ _. record {
        text = p.text;
        sheet = p.sheet;
        within = omega (arith, short_enough);
        answer = counts _ _ (ap (λ (k : ℕ). Ok k) end_is);
        left = f ∙ ap (λ (l : List ℕ). l ++ drop end lent) front_is ∙ ap (λ (k : ℕ). p.text ++ drop k lent) end_is;
      };
    }

-- The line of a refusal is printed, and the room that is asked for it is its length.
module _ (w : Refusal) {blank page : List ℕ} {end : ℕ} (v : Wrote blank page 0 end (refused_text (number_of w))) where
  pub refusal_printed : Printed (Err w) blank page end
  refusal_printed = record { text = refused_text (number_of w); sheet = refl; wrote = v }

  pub refusal_room : (room : ℕ) → end ≤ room → room_for_sheet (Err w) ≤ room
  refusal_room room h = omega (arith, v.ends)

  pub refusal_short : (lent : List ℕ) → length lent < end → Sheeted (Err w) lent lent (Err Refusal.NoRoom)
  refusal_short lent h = sheeted_short (Err w) lent (omega (arith, v.ends))

-- From the ticket's bytes: what was refused, and what was unpacked.
pub refused_sheeted : (s zeros lent after : List ℕ) (r : Result ℕ Refusal) (w : Refusal) → length zeros ≡ 1315 →
    Err w ≡ reply (length zeros) (unpacked s) → Sheeted (Err w) lent after r → Sheeted (unpacked s) lent after r
refused_sheeted s zeros lent after r w long e a =
    rw (reply_refused (length zeros) (unpacked s) w (λ xs f. omega (arith, (unpacked_shape s xs f).few, long)) e) a

pub unpacked_sheeted : (s xs lent after : List ℕ) (r : Result ℕ Refusal) → unpacked s ≡ Ok xs → Sheeted (Ok xs) lent after r →
    Sheeted (unpacked s) lent after r
unpacked_sheeted s xs lent after r e a = rw e a

-- A buffer as long as a page is never refused.
pub page_suffices : (ticket lent after : List ℕ) (r : Result ℕ Refusal) → Sheeted (unpacked ticket) lent after r → page_bytes ≤ length lent →
    SheetIn (unpacked ticket) lent after r
page_suffices ticket lent after r s h = s.printed (omega (arith, room_in_page ticket (unpacked ticket) refl))
