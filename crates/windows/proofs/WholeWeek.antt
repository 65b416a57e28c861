-- Where everybody has the whole week, the new ticket is the old one, byte for byte.
-- Assumes nothing.
use Rattle.std.specs.Prelude.{Ok}
use Prim.Native.Nat.{ℕ, zero, suc, ◌+◌, ◌*◌, ◌-◌, ◌/◌, ◌%◌, ◌≤◌, min}
use mathlib.Core.Path.{◌≡◌, refl, sym, ap, ◌∙◌}
use mathlib.Core.List.{List, [], ◌∷◌}
use native.Mathlib.Omega.{arith}
use lib.ListN.{get_or, set}
use Rattle.grid.proofs.Places.{inside}
use Rattle.groups.specs.Groups.{Bytes, pack}
use Rattle.offers.specs.declared.Terms.{Terms}
use Rattle.reader.specs.Answer.{unpacked}
use Rattle.reader.proofs.Facts.{unpacked-packed}
use Rattle.reader.proofs.TicketNumbers.{Passing, unpacked_passing, passing_packed}
use Rattle.tables.specs.View.{growers_of, pilots_of, pair_place}
use Rattle.ticket_calls.specs.declared.Party.TheVariants.{Grower}
use Rattle.ticket_calls.specs.Calls.{with_terms}
use Rattle.window_lists.specs.Windows.{common_hours, whole_week}
use Rattle.window_lists.proofs.WholeWeek.{whole_passes, whole_common}
use Rattle.pair_caps.specs.PairCaps.{narrowed_terms}
use Rattle.windows.specs.Narrowed.{terms_of, narrowed_pair, narrowed_pairs, new_ticket_of}
use Rattle.windows.proofs.TermLaws.{IsDeal, amount_kept}
use Rattle.windows.proofs.Narrowing.{terms_deal, pairs-none, pairs_more}
use Rattle.windows.proofs.Answering.{windows_pass}

-- Caps of at most 60 fit into 168 hours, both of them.
terms_fit : (t : Terms) → IsDeal t → narrowed_terms 168 t ≡ t
terms_fit t d =
    let tariff : min t.tariff_cap 168 ≡ t.tariff_cap = omega (arith, d.tariff_capped) in
    let free : min t.free_cap (168 - t.tariff_cap) ≡ t.free_cap = omega (arith, d.tariff_capped, d.free_capped) in
    rw (
      tariff,
      free,
      amount_kept t.tariff_cap t.tariff_gain (λ z. (d.no_tariff z).0),
      amount_kept t.tariff_cap t.tariff_pay (λ z. (d.no_tariff z).1),
      amount_kept t.free_cap t.joint_gain d.no_free,
    )

-- What is stored again where it stands changes nothing.
set_again : (l : List ℕ) (p x : ℕ) → x ≡ get_or l p 0 → set l p x ≡ l
set_again [] p x e = refl
set_again (y ∷ l) zero x e = ap (λ (z : ℕ). z ∷ l) e
set_again (y ∷ l) (suc p) x e = ap (λ (r : List ℕ). y ∷ r) (set_again l p x e)

terms_again : (xs : List ℕ) (i j : ℕ) → with_terms (Grower i) j (terms_of xs i j) xs ≡ xs
terms_again xs i j =
    rw (
      set_again xs (place 0) _ refl,
      set_again xs (suc (place 0)) _ (at 1 _ (omega arith)),
      set_again xs (suc (suc (place 0))) _ (at 2 _ (omega arith)),
      set_again xs (suc (suc (suc (place 0)))) _ (at 3 _ (omega arith)),
      set_again xs (suc (suc (suc (suc (place 0))))) _ (at 4 _ (omega arith)),
    )
  where
    place : ℕ → ℕ
    place a = pair_place (3 + growers_of xs + pilots_of xs) 5 a (pilots_of xs) i j

    at : (a q : ℕ) → place a ≡ q → get_or xs (place a) 0 ≡ get_or xs q 0
    at a q e = ap (λ (p : ℕ). get_or xs p 0) e

module _ (xs : List ℕ) (w : Passing xs) where
  abbrev n : ℕ
  n = growers_of xs

  abbrev m : ℕ
  m = pilots_of xs

  abbrev common : ℕ → ℕ → ℕ
  common = common_hours (whole_week (n + m)) n

  pairs_stay : (k : ℕ) → k ≤ n * m → narrowed_pairs common k xs ≡ xs
  pairs_stay zero h = pairs-none common xs
  pairs_stay (suc k) h =
      let p = inside n m k (omega arith) in
      let i = k / m in
      let j = k % m in
      pairs_more common k xs
      ∙ ap (narrowed_pair common i j) (pairs_stay k (omega arith))
      ∙ ap (λ (c : ℕ). with_terms (Grower i) j (narrowed_terms c (terms_of xs i j)) xs)
      (whole_common (n + m) n i j (omega (arith, p.grower)) (omega (arith, p.pilot)))
      ∙ ap (λ (t : Terms). with_terms (Grower i) j t xs) (terms_fit (terms_of xs i j) (terms_deal xs w i j p.grower p.pilot))
      ∙ terms_again xs i j

pub whole_week_lem : (ticket xs : List ℕ) → Bytes ticket → unpacked ticket ≡ Ok xs →
    new_ticket_of ticket (whole_week (growers_of xs + pilots_of xs)) ≡ Ok ticket
whole_week_lem ticket xs b e =
    let w = unpacked_passing ticket xs e in
    let stays = pairs_stay xs w (growers_of xs * pilots_of xs) (omega arith) in
    rw e (windows_pass (whole_week (growers_of xs + pilots_of xs)) xs (whole_passes (growers_of xs + pilots_of xs)))
    ∙ ap (λ (l : List ℕ). Ok (pack l)) stays
    ∙ sym (passing_packed xs w)
    ∙ unpacked-packed ticket xs b e
