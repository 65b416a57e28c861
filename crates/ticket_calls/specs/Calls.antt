-- The calls on an open market, over the list of its ticket's numbers: what each answers, and the numbers after it.
-- Assumes nothing.
use Rattle.std.specs.Prelude.{Ok, Err, is_ok}
use Rattle.std.specs.Prelude.{ℕ, zero, suc, Bool, false, cond, ◌&&◌, ◌||◌, List, [], ◌∷◌, leb, ltb, eqb, get_or, set}
use Rattle.std.proofs.lemmas.List.Edits.{sets}
use Rattle.checks.specs.declared.ticket.Field.TheVariants.{Hours}
use Rattle.checks.specs.declared.refusals.Refusal.{Refusal}
use Rattle.checks.specs.Refusals.{Checked, must, first}
use Rattle.checks.specs.TicketFaults.{fault_of, pair_passes}
use Rattle.offers.specs.declared.Terms.{Terms}
use Rattle.tables.specs.declared.Quantity.TheVariants.{TariffCap}
use Rattle.tables.specs.View.{growers_of, pilots_of, grower_place, pilot_place, place_of}
use Rattle.ticket_calls.specs.declared.Party.{Party}
use Rattle.ticket_calls.specs.declared.Party.TheVariants.{Grower, Pilot}

-- A party's hours are set, or the five numbers of grower i and pilot j; or what was handed in is no call.
pub data Call : Type 0 where
  SetHours : Party → ℕ → Call
  SetPair : ℕ → ℕ → Terms → Call
  NoCall : Call

-- Of n growers and m pilots: whether a party is one of them, where its hours stand, how many partners it has, and where the numbers of
-- its pair with partner k begin.
abbrev pub is_one : Party → ℕ → ℕ → Bool
is_one (Grower i) n m = ltb i n
is_one (Pilot j) n m = ltb j m

abbrev pub hours_place : Party → ℕ → ℕ
hours_place (Grower i) n = grower_place i
hours_place (Pilot j) n = pilot_place n j

abbrev pub partners : Party → ℕ → ℕ → ℕ
partners (Grower i) n m = m
partners (Pilot j) n m = n

abbrev pub pair_place : Party → ℕ → ℕ → ℕ → ℕ
pair_place (Grower i) n m k = place_of TariffCap n m i k
pair_place (Pilot j) n m k = place_of TariffCap n m k j

-- The same of a ticket's list. One with more than 16 growers or pilots is no ticket, and nobody is in it.
abbrev pub is_in : Party → List ℕ → Bool
is_in p l = leb (growers_of l) 16 && leb (pilots_of l) 16 && is_one p (growers_of l) (pilots_of l)

abbrev pub hours_of : Party → List ℕ → ℕ
hours_of p l = get_or l (hours_place p (growers_of l)) 0

-- The five numbers of a pair, in their order.
abbrev pub numbers_of : Terms → List ℕ
numbers_of t = t.tariff_cap ∷ t.tariff_gain ∷ t.tariff_pay ∷ t.free_cap ∷ t.joint_gain ∷ []

abbrev pub no_terms : Terms
no_terms = record { tariff_cap = 0; tariff_gain = 0; tariff_pay = 0; free_cap = 0; joint_gain = 0 }

-- Whether they have no fault, where `none` says whether somebody of the pair has no hours: the test that files are read with.
abbrev pub terms_pass : Bool → Terms → Bool
terms_pass none t = pair_passes none t.tariff_cap t.tariff_gain t.tariff_pay t.free_cap t.joint_gain

-- The list with other hours, with other numbers of a party's pair with partner k, and with zeros there for the first k partners.
abbrev pub with_hours : Party → ℕ → List ℕ → List ℕ
with_hours p h l = set l (hours_place p (growers_of l)) h

abbrev pub with_terms : Party → ℕ → Terms → List ℕ → List ℕ
with_terms p k t l = sets l (pair_place p (growers_of l) (pilots_of l) k) (numbers_of t)

unfoldable pub cleared : Party → ℕ → List ℕ → List ℕ
cleared p zero l = l
cleared p (suc k) l = with_terms p k no_terms (cleared p k l)

-- What a call does if it is accepted. Whose hours are set to 0 has no deals left.
abbrev pub without_deals : Party → List ℕ → List ℕ
without_deals p l = cleared p (partners p (growers_of l) (pilots_of l)) l

abbrev pub changed : Call → List ℕ → List ℕ
changed (SetHours p h) l = cond (eqb h 0) (without_deals p (with_hours p h l)) (with_hours p h l)
changed (SetPair i j t) l = with_terms (Grower i) j t l
changed NoCall l = l

-- Whether a call is refused: first for no such party, then for a number against the limits of tickets.
abbrev pub hours_refusal : Party → ℕ → List ℕ → Checked
hours_refusal p h l = first (must (is_in p l) Refusal.NoParty) (must (is_ok (fault_of Hours 0 false h)) Refusal.AgainstLimits)

abbrev pub terms_refusal : Party → Party → Terms → List ℕ → Checked
terms_refusal g p t l =
    first (must (is_in g l && is_in p l) Refusal.NoParty)
    (must (terms_pass (eqb (hours_of g l) 0 || eqb (hours_of p l) 0) t) Refusal.AgainstLimits)

abbrev pub refusal_of : Call → List ℕ → Checked
refusal_of (SetHours p h) l = hours_refusal p h l
refusal_of (SetPair i j t) l = terms_refusal (Grower i) (Pilot j) t l
refusal_of NoCall l = Err Refusal.AgainstLimits

-- The list after a call, which a refused one does not alter.
abbrev pub after : Call → List ℕ → List ℕ
after c l = cond (is_ok (refusal_of c l)) (changed c l) l

-- The list after several calls, one after another, and the first refusal among them.
abbrev pub after_all : List Call → List ℕ → List ℕ
after_all [] l = l
after_all (c ∷ cs) l = after_all cs (after c l)

abbrev pub first_refusal : List Call → List ℕ → Checked
first_refusal [] l = Ok tt
first_refusal (c ∷ cs) l = first (refusal_of c l) (first_refusal cs (after c l))
