-- Calls as a list of numbers, eight each: 1, grower and hours; 2, pilot and hours; 3, grower, pilot and the five numbers of the pair.
-- What stands after hours is not looked at.
-- Assumes nothing.
use Rattle.std.specs.Prelude.{ℕ, zero, suc, ◌+◌, ◌*◌, ◌/◌, cond, List, [], ◌∷◌, ◌++◌, leb, eqb, get_or, length}
use Rattle.offers.specs.declared.Terms.{Terms}
use Rattle.ticket_calls.specs.declared.Party.TheVariants.{Grower, Pilot}
use Rattle.ticket_calls.specs.Calls.{Call, SetHours, SetPair, NoCall}

-- The five numbers from a place on.
abbrev pub terms_at : List ℕ → ℕ → Terms
terms_at l p = record {
  tariff_cap = get_or l p 0;
  tariff_gain = get_or l (p + 1) 0;
  tariff_pay = get_or l (p + 2) 0;
  free_cap = get_or l (p + 3) 0;
  joint_gain = get_or l (p + 4) 0;
}

-- The call whose numbers begin at a place, by its first number.
abbrev pub call_of : ℕ → List ℕ → ℕ → Call
call_of kind l p =
    cond (eqb kind 1) (SetHours (Grower (get_or l (p + 1) 0)) (get_or l (p + 2) 0))
    (cond (eqb kind 2) (SetHours (Pilot (get_or l (p + 1) 0)) (get_or l (p + 2) 0))
    (cond (eqb kind 3) (SetPair (get_or l (p + 1) 0) (get_or l (p + 2) 0) (terms_at l (p + 3)))
    NoCall))

-- The same where the list may end too early: a call that is cut short is no call.
abbrev pub call_from : List ℕ → ℕ → Call
call_from l p = cond (leb (p + 8) (length l)) (call_of (get_or l p 0) l p) NoCall

-- The first k calls of a list, and all of them.
unfoldable pub first_calls : List ℕ → ℕ → List Call
first_calls l zero = []
first_calls l (suc k) = first_calls l k ++ (call_from l (8 * k) ∷ [])

abbrev pub calls_of : List ℕ → List Call
calls_of l = first_calls l ((length l + 7) / 8)
