-- A new ticket passes the ticket's checks; its caps fit, all else is kept, and what settling writes for it is sound.
-- Assumes nothing.
use Rattle.std.specs.Prelude.{Ok, Err}
use Rattle.checks.specs.Refusals.{Checked, giving}
use Prim.Native.Nat.{ℕ, ◌+◌, ◌*◌, ◌-◌, ◌≤◌, ◌<◌, min}
use mathlib.Core.Path.{◌≡◌, refl, sym, ap, ◌∙◌}
use mathlib.Core.List.{List}
use native.Mathlib.Omega.{arith}
use lib.ListN.{get_or, length}
use Rattle.grid.proofs.Cases.{never}
use Rattle.groups.specs.Groups.{pack}
use Rattle.offers.specs.declared.Terms.{Terms}
use Rattle.market.specs.Market.{Ticket}
use Rattle.reader.specs.Walk.{Outcome}
use Rattle.reader.specs.Answer.{unpacked}
use Rattle.reader.proofs.Facts.{unpacked_shape, pair-below}
use Rattle.reader.proofs.TicketNumbers.{Passing, unpacked_passing, passing_unpacked}
use Rattle.tables.specs.View.{growers_of, pilots_of, ticket_of}
use Rattle.window_lists.specs.Windows.{common_hours}
use Rattle.pair_caps.specs.PairCaps.{amount_with, narrowed_terms}
use Rattle.windows.specs.Narrowed.{terms_of, narrowed, refusal_for, narrowed_as, new_ticket_of}
use Rattle.windows.specs.NewTickets.{NarrowsPair, Narrows, NewTicket}
use Rattle.windows.proofs.TermLaws.{amount_none, amount_kept}
use Rattle.windows.proofs.Narrowing.{pairs_head, pairs_passing}
use Rattle.windows.proofs.PairNumbers.{narrowed_before, narrowed_turn}

-- A pair, by its five numbers in both lists.
module _ (xs ys : List ℕ) (i j common : ℕ) (e : terms_of ys i j ≡ narrowed_terms common (terms_of xs i j)) where
  abbrev old : Ticket
  old = ticket_of xs

  abbrev new : Ticket
  new = ticket_of ys

  tariff_cap_lem : new.tariff_cap i j ≡ min (old.tariff_cap i j) common
  tariff_cap_lem = ap (λ (t : Terms). t.tariff_cap) e

  free-cap : new.free_cap i j ≡ min (old.free_cap i j) (common - min (old.tariff_cap i j) common)
  free-cap = ap (λ (t : Terms). t.free_cap) e

  -- an amount by the cap that it has now
  tariff_gain_lem : new.tariff_gain i j ≡ amount_with (new.tariff_cap i j) (old.tariff_gain i j)
  tariff_gain_lem = ap (λ (t : Terms). t.tariff_gain) e ∙ ap (λ (c : ℕ). amount_with c (old.tariff_gain i j)) (sym tariff_cap_lem)

  tariff_pay_lem : new.tariff_pay i j ≡ amount_with (new.tariff_cap i j) (old.tariff_pay i j)
  tariff_pay_lem = ap (λ (t : Terms). t.tariff_pay) e ∙ ap (λ (c : ℕ). amount_with c (old.tariff_pay i j)) (sym tariff_cap_lem)

  joint_gain_lem : new.joint_gain i j ≡ amount_with (new.free_cap i j) (old.joint_gain i j)
  joint_gain_lem = ap (λ (t : Terms). t.joint_gain) e ∙ ap (λ (c : ℕ). amount_with c (old.joint_gain i j)) (sym free-cap)

  pair_narrows : NarrowsPair common old new i j
  pair_narrows = record {
    tariff_cap = tariff_cap_lem;
    free_cap = free-cap ∙ ap (λ (c : ℕ). min (old.free_cap i j) (common - c)) (sym tariff_cap_lem);
    tariff_falls = omega (arith, tariff_cap_lem);
    free_falls = omega (arith, free-cap);
    fits = omega (arith, tariff_cap_lem, free-cap);
    tariff_kept = λ h. (
      tariff_gain_lem ∙ amount_kept (new.tariff_cap i j) (old.tariff_gain i j) (λ z. absurd (omega (arith, h, z))),
      tariff_pay_lem ∙ amount_kept (new.tariff_cap i j) (old.tariff_pay i j) (λ z. absurd (omega (arith, h, z))),
    );
    free_kept = λ h. joint_gain_lem ∙ amount_kept (new.free_cap i j) (old.joint_gain i j) (λ z. absurd (omega (arith, h, z)));
    tariff_cleared = λ z. (tariff_gain_lem ∙ amount_none _ _ z, tariff_pay_lem ∙ amount_none _ _ z);
    free_cleared = λ z. joint_gain_lem ∙ amount_none _ _ z;
  }

module _ (windows xs : List ℕ) (w : Passing xs) where
  abbrev n : ℕ
  n = growers_of xs

  abbrev m : ℕ
  m = pilots_of xs

  abbrev common : ℕ → ℕ → ℕ
  common = common_hours windows n

  abbrev ys : List ℕ
  ys = narrowed windows xs

  head : (q : ℕ) → q < 3 → get_or ys q 0 ≡ get_or xs q 0
  head = pairs_head common (n * m) xs

  pub narrowed_passing : Passing ys
  narrowed_passing = pairs_passing common xs w (n * m) (omega arith)

  hours : (q : ℕ) → q < 3 + n + m → get_or ys q 0 ≡ get_or xs q 0
  hours = narrowed_before common xs w (n * m) (omega arith)

  pub narrowed_narrows : Narrows common (ticket_of xs) (ticket_of ys)
  narrowed_narrows = record {
    growers = head 1 (omega arith);
    pilots = head 2 (omega arith);
    grower_hours = λ i h. hours (3 + i) (omega arith);
    pilot_hours = λ j h. rw (head 1 (omega arith)) (hours (3 + n + j) (omega arith));
    grower_standby = λ i h. refl;
    pilot_standby = λ j h. refl;
    pairs = λ i j hi hj. pair_narrows xs ys i j (common i j)
        (narrowed_turn common xs w i j hi hj (n * m) (pair-below n m i j hi hj) (omega arith));
  }

-- A file that is made is that of the narrowed numbers of a ticket.
pub made_of : (ticket windows file : List ℕ) → new_ticket_of ticket windows ≡ Ok file →
    (xs : List ℕ) × (unpacked ticket ≡ Ok xs) × (refusal_for windows xs ≡ Ok tt) × (pack (narrowed windows xs) ≡ file)
made_of ticket windows file e = go (unpacked ticket) refl e
  where
    of_numbers : (xs : List ℕ) (r : Checked) → refusal_for windows xs ≡ r → giving r (pack (narrowed windows xs)) ≡ Ok file →
        (refusal_for windows xs ≡ Ok tt) × (pack (narrowed windows xs) ≡ file)
    of_numbers xs (Ok _) f e = (f, cc)
    of_numbers xs (Err w) f e = never cc

    go : (o : Outcome) → unpacked ticket ≡ o → narrowed_as windows o ≡ Ok file →
        (xs : List ℕ) × (unpacked ticket ≡ Ok xs) × (refusal_for windows xs ≡ Ok tt) × (pack (narrowed windows xs) ≡ file)
    go (Err why) f e = never cc
    go (Ok xs) f e = let r = of_numbers xs (refusal_for windows xs) refl e in (xs, f, r.0, r.1)

made_unpacks : (ticket windows file xs : List ℕ) → unpacked ticket ≡ Ok xs → pack (narrowed windows xs) ≡ file →
    unpacked file ≡ Ok (narrowed windows xs)
made_unpacks ticket windows file xs e f =
    ap unpacked (sym f) ∙ passing_unpacked (narrowed windows xs) (narrowed_passing windows xs (unpacked_passing ticket xs e))

pub new_ticket : (ticket windows file : List ℕ) → new_ticket_of ticket windows ≡ Ok file → NewTicket ticket windows file
new_ticket ticket windows file e =
    let r = made_of ticket windows file e in
    let u = made_unpacks ticket windows file r.0 r.1 r.3 in
    record {
      old = r.0;
      is_ticket = r.1;
      passing = r.2;
      unpacks = u;
      kind = pairs_head (common_hours windows (growers_of r.0)) (growers_of r.0 * pilots_of r.0) r.0 0 (omega arith);
      narrows = narrowed_narrows windows r.0 (unpacked_passing ticket r.0 r.1);
      settles = λ lent after answer s room. (rw u at s).settled room;
    }

-- It has no more bytes than any ticket.
pub new_ticket_short : (ticket windows file : List ℕ) → new_ticket_of ticket windows ≡ Ok file → length file ≤ 2083
new_ticket_short ticket windows file e =
    let r = made_of ticket windows file e in
    let u = made_unpacks ticket windows file r.0 r.1 r.3 in
    omega (arith, ap length r.3, (unpacked_shape file (narrowed windows r.0) u).short)
