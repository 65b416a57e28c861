-- A ticket that passes its checks stands in front of a list that has room for every ticket: written there, and after calls.
-- Assumes nothing.
use Rattle.std.specs.Prelude.{Ok, Err}
use Rattle.checks.specs.declared.refusals.Refusal.{Refusal}
use Rattle.checks.specs.Refusals.{Checked}
use Prim.Native.Nat.{ℕ, ◌≤◌, ◌<◌}
use mathlib.Core.Path.{◌≡◌, refl, sym, subst, ap, ◌∙◌}
use mathlib.Core.List.{List, ◌++◌}
use native.Mathlib.Omega.{arith}
use borrow.Author.Tests.{le-leb}
use lib.ListN.{get_or, take, drop, length, get_or-append}
use lib.Seq.{sets, length-sets, take_at}
use Rattle.numbers.proofs.Products.{prod_small}
use Rattle.reader.specs.Answer.{unpacked, reply, kept}
use Rattle.reader.proofs.Facts.{written_front, unpacked_shape, reply_done}
use Rattle.reader.proofs.TicketNumbers.{Passing, unpacked_passing}
use Rattle.tables.specs.View.{growers_of, pilots_of, ticket_length, ticket_front}
use Rattle.ticket_calls.specs.Calls.{Call, changed, refusal_of, after}
use Rattle.ticket_calls.proofs.RefusalLaws.{after_accepted, after_refused}
use Rattle.ticket_calls.proofs.TicketChanges.{changed_passing}
use Rattle.ticket_calls.proofs.Fronts.{changed_head, changed_long, changed-take, same_refusal}

pub record InFront (xs list : List ℕ) : Type 0 where
  pub long : length list ≡ 1315
  pub front : ticket_front list ≡ xs
  pub passing : Passing xs

-- A call on the list is the same call on the ticket.
module _ (c : Call) (xs list : List ℕ) (here : InFront xs list) where
  pub same_call : refusal_of c xs ≡ refusal_of c list
  same_call = ap (refusal_of c) (sym here.front) ∙ same_refusal list c

  changed-front : ticket_front (changed c list) ≡ changed c xs
  changed-front =
      ap (λ (n : ℕ). take (ticket_length n (pilots_of (changed c list))) (changed c list)) (changed_head c list 1 (omega arith))
      ∙ ap (λ (m : ℕ). take (ticket_length (growers_of list) m) (changed c list)) (changed_head c list 2 (omega arith))
      ∙ changed-take (ticket_length (growers_of list) (pilots_of list)) (omega arith) c list
      ∙ ap (changed c) here.front

  accepted : refusal_of c list ≡ Ok tt → InFront (after c xs) (after c list)
  accepted e =
      let t = after_accepted c list e in
      let a = after_accepted c xs (same_call ∙ e) in
      record {
        long = ap length t ∙ changed_long c list ∙ here.long;
        front = ap ticket_front t ∙ changed-front ∙ sym a;
        passing = subst Passing (sym a) (changed_passing c xs here.passing (same_call ∙ e));
      }

  refused : (w : Refusal) → refusal_of c list ≡ Err w → InFront (after c xs) (after c list)
  refused w e =
      let t = after_refused c list w e in
      let a = after_refused c xs w (same_call ∙ e) in
      record {
        long = ap length t ∙ here.long;
        front = ap ticket_front t ∙ here.front ∙ sym a;
        passing = subst Passing (sym a) here.passing;
      }

  pub after_in-front : InFront (after c xs) (after c list)
  after_in-front = go (refusal_of c list) refl
    where
      go : (r : Checked) → refusal_of c list ≡ r → InFront (after c xs) (after c list)
      go (Ok _) e = accepted e
      go (Err w) e = refused w e

-- A ticket's numbers that were written to the front of such a list.
module _ (xs zeros list : List ℕ) (w : Passing xs) (long : length zeros ≡ 1315) (e : list ≡ sets zeros 0 xs) where
  few : length xs ≤ length zeros
  few = omega (arith, w.count, long, prod_small (growers_of xs) (pilots_of xs) w.growers.1 w.pilots.1, w.growers.1, w.pilots.1)

  written : list ≡ xs ++ drop (length xs) zeros
  written = e ∙ written_front zeros xs few

  number : (q : ℕ) → q < length xs → get_or list q 0 ≡ get_or xs q 0
  number q h = ap (λ (r : List ℕ). get_or r q 0) written ∙ get_or-append xs (drop (length xs) zeros) 0 q h

  pub written_in_front : InFront xs list
  written_in_front = record {
    long = ap length e ∙ length-sets zeros 0 xs ∙ long;
    front =
        ap (λ (n : ℕ). take (ticket_length n (pilots_of list)) list) (number 1 (omega (arith, w.count)))
        ∙ ap (λ (m : ℕ). take (ticket_length (growers_of xs) m) list) (number 2 (omega (arith, w.count)))
        ∙ ap (λ (k : ℕ). take k list) (sym w.count)
        ∙ ap (take (length xs)) written
        ∙ take_at xs (drop (length xs) zeros) (length xs) refl;
    passing = w;
  }

-- What unpacking leaves of a ticket in such a list.
pub unpacked_in_front : (file zeros list : List ℕ) (count : ℕ) → length zeros ≡ 1315 →
    Ok count ≡ reply (length zeros) (unpacked file) → list ≡ kept zeros (unpacked file) →
    (xs : List ℕ) × (unpacked file ≡ Ok xs) × InFront xs list
unpacked_in_front file zeros list count long told left =
    let d = reply_done (unpacked file) zeros count told in
    let w = unpacked_passing file d.0 d.1 in
    let few : length d.0 ≤ length zeros = omega (arith, (unpacked_shape file d.0 d.1).few, long) in
    (d.0, d.1, written_in_front d.0 zeros list w long (left ∙ ap (kept zeros) d.1 ∙ rw (le-leb (length d.0) (length zeros) few)))
