-- A turn in which a grower asked for hours: they are given, free ones or late ones, or the pilot's price rises.
-- Assumes nothing.
use Prim.Native.Nat.{ℕ, ◌+◌, ◌-◌, ◌≤◌, ◌<◌}
use mathlib.Core.Path.{◌≡◌, refl, sym, subst}
use mathlib.Core.List.{List, []}
use mathlib.Core.Logic.{⊎_elim}
use native.Mathlib.Omega.{arith}
use lib.ListN.{set}
use Rattle.std.specs.Prelude.{Option, Some}
use Rattle.market.specs.declared.Deal.{Deal}
use Rattle.market.specs.Market.{Ticket}
use Rattle.market.specs.Method.{slot_for}
use Rattle.market.specs.Steps.{Added}
use Rattle.market.proofs.Adding.{never_less}
use Rattle.market.proofs.Steps.{raised_used}
use Rattle.offers.specs.declared.Terms.{Terms}
use Rattle.offers.specs.declared.Agreed.{Agreed}
use Rattle.method.specs.View.{line, ticket, agreed_at, held_in, hours_held}
use Rattle.method.specs.State.{Fit, Live, FreeHours, Turned}
use Rattle.method.specs.Choice.{Wanted, Room, Asks}
use Rattle.method.specs.LateHours.{late_slot, HasLate}
use Rattle.method.specs.Changes.{Full, put_cell, MoreHeld}
use Rattle.method.specs.Rises.{Rises}
use Rattle.method.proofs.HourChanges.{put_more, put-fewer}
use Rattle.method.proofs.LateSearch.{NoneLate, no_late_hour}
use Rattle.method.proofs.TurnLaws.{room_fits, turn_add, turn_move, turn_raise, raised}
use Rattle.method.proofs.PilotHours.{free_added, free_moved, free-kept}
use Rattle.method.proofs.Rounds.{Working, left, work_starts, left_less}
use Rattle.method.proofs.JumpTurns.{turn_jump}

-- grower i asked for up to `most` hours in deal d with pilot j, in a turn that began with `todo` left to do
pub record Turn (t : Ticket) (prices : List ℕ) (held : List (List Agreed)) (free : List ℕ) (i k j : ℕ) (d : Deal) (most todo : ℕ)
    : Type 0 where
  pub fit : Fit t
  pub live : Live t prices held
  pub hours : FreeHours t held free
  pub want : Wanted t (line prices) (held_in held) d i j
  pub room : Room t (held_in held) d i j most
  pub begun : left t prices held k ≡ todo

-- the turn is over: grower i is asked again, and less is left to do
abbrev pub Over : Ticket → List ℕ → List (List Agreed) → List ℕ → ℕ → ℕ → Type 0
Over t prices held free i todo = Working t prices held free i 0 × (left t prices held 0 < todo)

-- what is asked for is what the match told of it
pub as_told : (t : Ticket) (price : ℕ → ℕ) (held : List (List Agreed)) (i : ℕ) (asked told : Option (ℕ × Deal × ℕ)) → asked ≡ told →
    Asks t price (held_in held) i asked → Asks t price (held_in held) i told
as_told t price held i asked told e a = subst (λ (r : Option (ℕ × Deal × ℕ)). Asks t price (held_in held) i r) e a

pub turn_begins : (t : Ticket) (prices : List ℕ) (held : List (List Agreed)) (free : List ℕ) (i k j : ℕ) (d : Deal) (most : ℕ) →
    Fit t → Working t prices held free i k → Asks t (line prices) (held_in held) i (Some (j, d, most)) →
    Turn t prices held free i k j d most (left t prices held k)
turn_begins t prices held free i k j d most fit work asks =
    record { fit = fit; live = work.live; hours = work.hours; want = asks.0; room = asks.1; begun = refl }

-- the search for late hours leaves all as it is
pub none_late_still : {terms : List (List Terms)} {price : ℕ} {held held' : List (List Agreed)} {j k : ℕ} → held' ≡ held →
    NoneLate terms price held j k → NoneLate terms price held' j k
none_late_still {terms} {price} {held} {held'} {j} {k} e none = subst (λ (h : List (List Agreed)). NoneLate terms price h j k) (sym e) none

module _ {t : Ticket} {prices : List ℕ} {held : List (List Agreed)} {free : List ℕ} {i k j : ℕ} {d : Deal} {most todo : ℕ}
    (s : Turn t prices held free i k j d most todo) where
  pub turn_still : {held' : List (List Agreed)} → held' ≡ held → Turn t prices held' free i k j d most todo
  turn_still e = subst (λ (h : List (List Agreed)). Turn t prices h free i k j d most todo) (sym e) s

  grower-within : i < 16
  grower-within = omega (arith, s.want.grower, s.fit.growers)

  pub pilot-within : j < 16
  pilot-within = omega (arith, s.want.pilot, s.fit.pilots)

  pub hours_fit_cell : (x : ℕ) → x ≤ most → held_in held (slot_for d) i j + x < 65536
  hours_fit_cell x h = room_fits t held d i j x s.fit (omega (arith, s.room.room))

  over : (prices' : List ℕ) (held' : List (List Agreed)) (free' : List ℕ) → Turned t prices held prices' held' → FreeHours t held' free' →
      Over t prices' held' free' i todo
  over prices' held' free' turned hours = (
    work_starts t prices' held' free' i (λ _. s.want.grower) turned.live hours,
    omega (arith, s.begun, left_less t prices held prices' held' k s.fit.growers turned),
  )

  -- The grower gets x hours, the fewest of those he asked for and of the y that the pilot has.
  module _ {x y : ℕ} (fewest : (x ≤ most) × (x ≤ y) × (0 < most → 0 < y → 0 < x)) {agreed : Agreed}
      (more : MoreHeld (agreed_at held i j) agreed (slot_for d) x) where
    abbrev given : List (List Agreed)
    given = put_cell held i j agreed

    put : Full given × Added (held_in held) (held_in given) (slot_for d) i j x
    put = put_more held s.live.full i j x grower-within pilot-within agreed (slot_for d) given refl more

    -- the pilot has free hours
    pub free-given : 0 < y → y ≡ line free j → Over t prices given (set free j (line free j - x)) i todo
    free-given some e =
        over prices given (set free j (line free j - x))
        (turn_add t prices held s.fit s.live d i j s.want given x (fewest.2 s.room.some some)
        (omega (arith, fewest.0, s.room.room))
        (omega (arith, fewest.0, s.room.free))
        (omega (arith, fewest.1, s.hours.each j s.want.pilot))
        put)
        (free_added t held given free s.hours (slot_for d) i j x s.want.grower pilot-within (omega (arith, fewest.1)) put.1)

    -- the pilot has late hours in deal e with a grower, who gives them up
    module _ {e : Deal} {giver : ℕ} (late : HasLate t (line prices) (held_in held) e giver j y) where
      pub late_there : x ≤ hours_held (agreed_at given giver j) (late_slot e)
      late_there = omega (arith, never_less put.1 (late_slot e) giver j, fewest.1, late.count)

      pub late_given : {agreed' : Agreed} → MoreHeld agreed' (agreed_at given giver j) (late_slot e) x →
          Over t prices (put_cell given giver j agreed') free i todo
      late_given {agreed'} fewer =
          let after = put_cell given giver j agreed' in
          let taken = put-fewer given put.0 giver j x (omega (arith, late.grower, s.fit.growers)) pilot-within
          agreed' (late_slot e) after refl fewer in
          over prices after free
          (turn_move t prices held s.fit s.live d i j s.want given after e giver x y (fewest.2 s.room.some late.some)
          (omega (arith, fewest.0, s.room.room))
          (omega (arith, fewest.0, s.room.free))
          late put.1 taken)
          (free_moved t held after free s.hours given (slot_for d) (late_slot e) i giver j x s.want.grower late.grower
          put.1 taken.1)

-- The pilot has neither, and the price rises.
module _ (n m : ℕ) (grower_hours pilot_hours : List ℕ) (terms : List (List Terms)) {prices : List ℕ} {held : List (List Agreed)}
    {free : List ℕ} {i k j : ℕ} {d : Deal} {most todo : ℕ}
    (s : Turn (ticket n m grower_hours pilot_hours terms) prices held free i k j d most todo) where
  pub price_risen : {prices' : List ℕ} {held' : List (List Agreed)} {giver : ℕ} → line free j ≤ 0 →
      n ≤ giver → NoneLate terms (line prices j) held j giver →
      Rises (ticket n m [] [] terms) (line free) prices held prices' held' j →
      Over (ticket n m grower_hours pilot_hours terms) prices' held' free i todo
  price_risen {prices'} {held'} {giver} busy all none =
      let t = ticket n m grower_hours pilot_hours terms in
      let want = s.want in
      let no-late = no_late_hour n m grower_hours pilot_hours terms prices held j giver all none in
      ⊎_elim
      (λ jumps. over s prices' held' free
      (turn_jump n m grower_hours pilot_hours terms prices prices' held held' free j want.pilot s.live s.hours jumps)
      (subst (λ (h : List (List Agreed)). FreeHours t h free) (sym jumps.same) s.hours))
      (λ one. over s prices' held' free
      (turn_raise t prices held s.fit s.live d i j want prices' held'
      (omega (arith, busy, s.hours.each j want.pilot)) no-late one.price one.aged one.full)
      (free-kept t held held' free s.hours
      (raised_used (raised t prices held s.fit s.live d i j want prices' held' one.price one.aged))))
