-- What both documents have in common: numbers without fault are short, the state after one is known, and the numbers are few.
use Rattle.std.specs.Prelude.{Ok}
use mathlib.Core.Path.{◌≡◌, refl}
use mathlib.Core.List.{List, [], ◌∷◌}
use Prim.Native.Nat.{ℕ, zero, suc, ◌+◌, ◌*◌, ◌^◌, ◌≤◌, ◌<◌}
use native.Mathlib.Nat.{mul-le-mul}
use native.Mathlib.Omega.{arith}
use lib.Dec.{lit<}
use lib.ListN.{length}
use Rattle.checks.specs.declared.refusals.Document.{Document}
use Rattle.checks.specs.declared.ticket.Field.{Field}
use Rattle.checks.specs.declared.ticket.Field.TheVariants.{Kind, Growers, Pilots, Hours, TariffCap, TariffGain, TariffPay, FreeCap}
use Rattle.checks.specs.declared.ticket.Field.TheVariants.{FreeGain}
use Rattle.documents.specs.declared.State.{State}
use Rattle.groups.specs.Groups.{groups, pack}
use Rattle.documents.specs.Walk.{final}
use Rattle.documents.specs.State.{start}
use Rattle.documents.specs.Ticket.{field_of, after_of}
use Rattle.documents.specs.Settlement.{place_after}
use Rattle.documents.specs.Layout.{fault_in, after_in, body_in, form_of}
use Rattle.documents.specs.Bounds.{Known, most_places, most_pairs}
use Rattle.groups.proofs.GroupLaws.{encode_short, pack-length}
use Rattle.documents.proofs.WalkLaws.{Good}
use Rattle.documents.proofs.TicketLaws.{ticket_small}
use Rattle.checks.proofs.FaultLaws.{settlement_passes_lem}

pub number_small : (p : Document) (s : State) (x : ℕ) → fault_in p s x ≡ Ok tt → x < 128 ^ groups
number_small Document.Ticket s x e = ticket_small s x e
number_small (Document.Settlement n m) s x e = (settlement_passes_lem n m s.place x e).0

-- A state that is known, one place on.
abbrev Next : State → State → Type 0
Next s t = Known t × (t.place ≡ s.place + 1)

known_field : (f : Field) (s : State) (x : ℕ) → Known s → x < 128 ^ groups → Next s (after_of f s x)
known_field Kind s x k h = (record { growers = k.growers; pilots = k.pilots }, refl)
known_field Growers s x k h = (record { growers = h; pilots = k.pilots }, refl)
known_field Pilots s x k h = (record { growers = k.growers; pilots = h }, refl)
known_field Hours s x k h = (record { growers = k.growers; pilots = k.pilots }, refl)
known_field TariffCap s x k h = (record { growers = k.growers; pilots = k.pilots }, refl)
known_field TariffGain s x k h = (record { growers = k.growers; pilots = k.pilots }, refl)
known_field TariffPay s x k h = (record { growers = k.growers; pilots = k.pilots }, refl)
known_field FreeCap s x k h = (record { growers = k.growers; pilots = k.pilots }, refl)
known_field FreeGain s x k h = (record { growers = k.growers; pilots = k.pilots }, refl)

known_place : (p : ℕ) (s : State) (x : ℕ) → Known s → x < 128 ^ groups → Next s (place_after p s x)
known_place zero s x k h = (record { growers = k.growers; pilots = k.pilots }, refl)
known_place (suc zero) s x k h = (record { growers = h; pilots = k.pilots }, refl)
known_place (suc (suc zero)) s x k h = (record { growers = k.growers; pilots = h }, refl)
known_place (suc (suc (suc p))) s x k h = (record { growers = k.growers; pilots = k.pilots }, refl)

pub known_after : (p : Document) (s : State) (x : ℕ) → Known s → fault_in p s x ≡ Ok tt →
    Known (after_in p s x) × ((after_in p s x).place ≡ s.place + 1)
known_after Document.Ticket s x k e = known_field (field_of s) s x k (ticket_small s x e)
known_after (Document.Settlement n m) s x k e = known_place s.place s x k (settlement_passes_lem n m s.place x e).0

pub start_known : Known start
start_known = record { growers = lit< tt; pilots = lit< tt }

pub known_final : (p : Document) (s : State) (xs : List ℕ) → Known s → Good (form_of p) s xs → Known (final (form_of p) s xs)
known_final p s [] k g = k
known_final p s (x ∷ xs) k g = known_final p (after_in p s x) xs (known_after p s x k g.0).0 g.1

-- The numbers of a document are few, so that no count wraps.
pub known_pairs : (s : State) → Known s → s.growers * s.pilots ≤ most_pairs
known_pairs s k =
    let n : s.growers ≤ 16383 = omega (arith, k.growers) in let m : s.pilots ≤ 16383 = omega (arith, k.pilots) in mul-le-mul n m

pub body_few : (p : Document) (s : State) → Known s → body_in p s + 3 ≤ most_places
body_few Document.Ticket s k = omega (arith, known_pairs s k, k.growers, k.pilots)
body_few (Document.Settlement n m) s k = omega (arith, known_pairs s k)

-- A number takes at most `groups` bytes.
pub good_short : (p : Document) (s : State) (xs : List ℕ) → Good (form_of p) s xs → length (pack xs) ≤ 2 * length xs
good_short p s [] g = omega arith
good_short p s (x ∷ xs) g =
    omega (arith, pack-length x xs, encode_short groups x (omega arith) (number_small p s x g.0), good_short p (after_in p s x) xs g.1)
