-- The ticket that is drawn from a seed, for n growers and m pilots. Everybody's hours, and each number of a pair, take one number x of
-- the generator.
-- Assumes nothing.
use Rattle.std.specs.Prelude.{Ok, Err}
use Rattle.std.specs.Prelude.{ℕ, zero, suc, ◌+◌, ◌*◌, ◌-◌, ◌%◌, ◌≡◌, Bool, cond, ◌&&◌, List, [], ◌∷◌, ◌++◌, leb, eqb}
use Rattle.checks.specs.Refusals.{ticket_refusals}
use Rattle.checks.specs.Hours.{none_in}
use Rattle.groups.specs.Groups.{pack}
use Rattle.reader.specs.Walk.{Outcome}
use Rattle.reader.specs.Answer.{packed}
use Rattle.draws.specs.Generator.{next, start, after}

-- Hours are 0 to 20: fewer than all deals of a party ask for, as soon as there are a few.
abbrev pub hours_from : ℕ → ℕ
hours_from x = x % 21

-- Caps are 0 to 6, and 0 in two of eight cases: they bind before the hours do where partners are few. In a deal of somebody without hours,
-- which is what `none` says, they are 0.
abbrev pub cap_from : Bool → ℕ → ℕ
cap_from none x = cond none 0 (x % 8 - 1)

-- Amounts are multiples of 25, so that there are ties: up to 250 for either side of a tariff, up to 500 for a joint gain, so that
-- neither kind of deal is always the better one. A deal of cap 0 has amounts 0.
abbrev pub tariff_amount : ℕ → ℕ → ℕ
tariff_amount cap x = cond (eqb cap 0) 0 (25 * (x % 11))

abbrev pub joint_amount : ℕ → ℕ → ℕ
joint_amount cap x = cond (eqb cap 0) 0 (25 * (x % 21))

-- The five numbers of a pair, of which the first is drawn from x.
abbrev pub pair_with : ℕ → ℕ → ℕ → List ℕ
pair_with tariff_cap free_cap x =
    tariff_cap ∷ tariff_amount tariff_cap (after 1 x) ∷ tariff_amount tariff_cap (after 2 x) ∷ free_cap ∷ joint_amount free_cap (after 4 x) ∷ []

abbrev pub drawn_pair : Bool → ℕ → List ℕ
drawn_pair none x = pair_with (cap_from none x) (cap_from none (after 3 x)) x

-- The hours of k parties, and the numbers of k pairs from pair q on.
abbrev pub drawn_hours : ℕ → ℕ → List ℕ
drawn_hours zero x = []
drawn_hours (suc k) x = hours_from x ∷ drawn_hours k (next x)

abbrev pub drawn_pairs : (ℕ → Bool) → ℕ → ℕ → ℕ → List ℕ
drawn_pairs none q zero x = []
drawn_pairs none q (suc k) x = drawn_pair (none q) x ++ drawn_pairs none (q + 1) k (after 5 x)

-- A ticket's numbers: kind, n, m, everybody's hours, the pairs.
abbrev pub ticket_from : ℕ → ℕ → ℕ → List ℕ
ticket_from n m x =
    1 ∷ n ∷ m ∷ (drawn_hours (n + m) x ++ drawn_pairs (none_in (drawn_hours (n + m) x) n m) 0 (n * m) (after (n + m) x))

-- n and m are 1 to 16.
abbrev pub in_range : ℕ → Bool
in_range parties = leb 1 parties && leb parties 16

abbrev pub both_in_range : ℕ → ℕ → Bool
both_in_range n m = in_range n && in_range m

abbrev pub drawn : ℕ → ℕ → ℕ → Outcome
drawn seed n m = cond (both_in_range n m) (Ok (ticket_from n m (start seed))) (Err ticket_refusals.parties)

-- What is drawn passes the ticket's checks: packing takes it.
abbrev pub Passes : Outcome → Type 0
Passes (Err w) = Unit {0}
Passes (Ok xs) = packed xs ≡ Ok (pack xs)
