-- What growers ask for, and what it tells of the market that none of them asks for anything.
-- Assumes nothing.
use Prim.Native.Nat.{ℕ, ◌+◌, ◌≤◌, ◌<◌}
use mathlib.Core.Path.{◌≡◌, refl}
use mathlib.Core.List.{List, []}
use native.Mathlib.Decide.{dec_lt}
use native.Mathlib.Omega.{arith}
use borrow.Author.Tests.{lt-ltb, le-ltb}
use lib.ListN.{get_or}
use Rattle.std.specs.Prelude.{Option, None, Some}
use Rattle.grid.proofs.Cases.{by_index}
use Rattle.market.specs.declared.Deal.{Deal}
use Rattle.market.specs.declared.Deal.TheVariants.{Tariff, Free}
use Rattle.market.specs.Market.{Ticket, cap, used_by_grower}
use Rattle.market.specs.Method.{Held, hours_of, offer, Done}
use Rattle.offers.specs.declared.Terms.{Terms}
use Rattle.offers.specs.declared.Agreed.{Agreed}
use Rattle.method.specs.View.{line, ticket, alone, held_in, held_by, agreed_in, terms_in, hours_in, cap_of}
use Rattle.method.specs.Choice.{chance, Greatest, Wanted, AsksNothing, Room, Asks}

-- the best deal that is there for grower i with a free hour
abbrev pub Asked : Ticket → (ℕ → ℕ) → Held → ℕ → Option (ℕ × Deal) → Type 0
Asked t price held i None = AsksNothing t price held i
Asked t price held i (Some (j, d)) = Wanted t price held d i j

module _ (t : Ticket) (price : ℕ → ℕ) (held : Held) (i : ℕ) where
  chance_room : (d : Deal) (j : ℕ) → 0 < chance t price held i d j → hours_of held d i j < cap t d i j
  chance_room d j h = elim (dec_lt (hours_of held d i j) (cap t d i j)) [
    | yes p ↦ p
    | no p ↦ absurd (omega (arith, none p))
  ]
    where
      none : ¬ (hours_of held d i j < cap t d i j) → chance t price held i d j ≡ 0
      none p = rw (le-ltb (hours_of held d i j) (cap t d i j) (omega arith))

  chance_is_offer : (d : Deal) (j : ℕ) → hours_of held d i j < cap t d i j → chance t price held i d j ≡ offer t price d i j
  chance_is_offer d j h = rw (lt-ltb (hours_of held d i j) (cap t d i j) h)

  -- a grower with a free hour asks for his greatest chance
  asks_for_greatest : (best : Option (ℕ × Deal)) → i < t.growers → used_by_grower t (hours_of held) i < t.grower_hours i →
      Greatest (chance t price held i) t.pilots best → Asked t price held i best
  asks_for_greatest None hi free top = λ d j hj _ room. omega (arith, chance_is_offer d j room, top d j hj)
  asks_for_greatest (Some (j, d)) hi free top =
      let room = chance_room d j top.1 in
      record {
        grower = hi;
        pilot = top.0;
        free = free;
        room = room;
        taken = omega (arith, top.1, chance_is_offer d j room);
        most = λ e l hl r. omega (arith, top.2 e l hl, chance_is_offer d j room, chance_is_offer e l r);
      }

-- The rows of a grower with a free hour; the search for his best deal was not told his hours.
module _ (m hours : ℕ) (terms : List Terms) (agreed : List Agreed) (prices : List ℕ) where
  same-chance : (d : Deal) (j : ℕ) → chance (alone m 0 terms) (line prices) (held_by agreed) 0 d j ≡
      chance (alone m hours terms) (line prices) (held_by agreed) 0 d j
  same-chance Tariff j = refl
  same-chance Free j = refl

  same_greatest : (best : Option (ℕ × Deal)) → Greatest (chance (alone m 0 terms) (line prices) (held_by agreed) 0) m best →
      Greatest (chance (alone m hours terms) (line prices) (held_by agreed) 0) m best
  same_greatest None g = λ d j hj. omega (arith, same-chance d j, g d j hj)
  same_greatest (Some (j, d)) g = (
    g.0,
    omega (arith, same-chance d j, g.1),
    λ e l hl. omega (arith, same-chance d j, same-chance e l, g.2 e l hl),
  )

  pub asks_for_best : (best : Option (ℕ × Deal)) → used_by_grower (alone m hours terms) (hours_of (held_by agreed)) 0 < hours →
      Greatest (chance (alone m 0 terms) (line prices) (held_by agreed) 0) m best →
      Asked (alone m hours terms) (line prices) (held_by agreed) 0 best
  asks_for_best best free g =
      asks_for_greatest (alone m hours terms) (line prices) (held_by agreed) 0 best (omega arith) free (same_greatest best g)

-- so many hours as the grower has free and the deal has room for
pub room_is : (m hours : ℕ) (terms : List Terms) (agreed : List Agreed) (d : Deal) (j x : ℕ) → 0 < x →
    hours_in (agreed_in agreed j) d + x ≤ cap_of (terms_in terms j) d →
    used_by_grower (alone m 0 []) (hours_of (held_by agreed)) 0 + x ≤ hours → Room (alone m hours terms) (held_by agreed) d 0 j x
room_is m hours terms agreed Tariff j x some room free = record { some = some; room = room; free = free }
room_is m hours terms agreed Free j x some room free = record { some = some; room = room; free = free }

-- the deal that a grower wants has room, by his rows
pub room_alone : (m hours : ℕ) (terms : List Terms) (agreed : List Agreed) (d : Deal) (j : ℕ) →
    hours_of (held_by agreed) d 0 j < cap (alone m hours terms) d 0 j → hours_in (agreed_in agreed j) d < cap_of (terms_in terms j) d
room_alone m hours terms agreed Tariff j h = h
room_alone m hours terms agreed Free j h = h

-- The k growers before grower i, and round from the last to the first, ask for nothing.
pub record NoneAsks (t : Ticket) (price : ℕ → ℕ) (held : Held) (i k : ℕ) : Type 0 where
  pub before : (l : ℕ) → l < t.growers → l < i → i ≤ l + k → AsksNothing t price held l
  pub round : (l : ℕ) → l < t.growers → i ≤ l → i + t.growers ≤ l + k → AsksNothing t price held l

module _ (t : Ticket) (price : ℕ → ℕ) (held : Held) (i : ℕ) where
  pub none_asks_start : NoneAsks t price held i 0
  none_asks_start = record { before = λ l a b c. absurd (omega arith); round = λ l a b c. absurd (omega arith) }

  module _ (k : ℕ) (all : NoneAsks t price held i k) where
    pub none_asks_more : AsksNothing t price held i → NoneAsks t price held (i + 1) (k + 1)
    none_asks_more none = record {
      before = by_index (λ l. l < t.growers → l < i + 1 → i + 1 ≤ l + (k + 1) → AsksNothing t price held l) i (λ _ _ _. none)
          (λ l ne a b c. all.before l a (omega arith) (omega arith));
      round = λ l a b c. all.round l a (omega arith) (omega arith);
    }

    pub none_asks_round : i + 1 ≡ t.growers → AsksNothing t price held i → NoneAsks t price held 0 (k + 1)
    none_asks_round last none = record {
      before = λ l a b c. absurd (omega arith);
      round = by_index (λ l. l < t.growers → 0 ≤ l → 0 + t.growers ≤ l + (k + 1) → AsksNothing t price held l) i (λ _ _ _. none)
          (λ l ne a b c. all.before l a (omega arith) (omega arith));
    }

    pub done_if_none_asks : t.growers ≤ k → (0 < t.growers → i < t.growers) → Done t price held
    done_if_none_asks h start = λ d l j hl hj free room. elim (dec_lt l i) [
      | yes p ↦ all.before l hl p (omega (arith, start (omega arith))) d j hj free room
      | no p ↦ all.round l hl (omega arith) (omega arith) d j hj free room
    ]

-- What a grower asks for alone, by his rows, he asks for among all.
module _ (n m i : ℕ) (grower_hours pilot_hours : List ℕ) (terms : List (List Terms)) (prices : List ℕ) (square : List (List Agreed))
    (hi : i < n) where
  abbrev whole : Ticket
  whole = ticket n m grower_hours pilot_hours terms

  abbrev row : Ticket
  row = alone m (get_or grower_hours i 0) (get_or terms i [])

  abbrev held : Held
  held = held_in square

  abbrev held_row : Held
  held_row = held_by (get_or square i [])

  most_in : (v j : ℕ) →
      ((e : Deal) (l : ℕ) → l < m → hours_of held_row e 0 l < cap row e 0 l → offer row (line prices) e 0 l ≤ v) →
      (e : Deal) (l : ℕ) → l < m → hours_of held e i l < cap whole e i l → offer whole (line prices) e i l ≤ v
  most_in v j most Tariff = most Tariff
  most_in v j most Free = most Free

  nothing_in : AsksNothing row (line prices) held_row 0 → AsksNothing whole (line prices) held i
  nothing_in a Tariff = a Tariff
  nothing_in a Free = a Free

  wanted_in : (d : Deal) (j : ℕ) → Wanted row (line prices) held_row d 0 j → Wanted whole (line prices) held d i j
  wanted_in Tariff j w = record {
    grower = hi;
    pilot = w.pilot;
    free = w.free;
    room = w.room;
    taken = w.taken;
    most = most_in (offer whole (line prices) Tariff i j) j w.most;
  }
  wanted_in Free j w = record {
    grower = hi;
    pilot = w.pilot;
    free = w.free;
    room = w.room;
    taken = w.taken;
    most = most_in (offer whole (line prices) Free i j) j w.most;
  }

  room_in : (d : Deal) (j x : ℕ) → Room row held_row d 0 j x → Room whole held d i j x
  room_in Tariff j x r = record { some = r.some; room = r.room; free = r.free }
  room_in Free j x r = record { some = r.some; room = r.room; free = r.free }

  pub asks_in : (asked : Option (ℕ × Deal × ℕ)) → Asks row (line prices) held_row 0 asked → Asks whole (line prices) held i asked
  asks_in None a = nothing_in a
  asks_in (Some (j, d, x)) a = (wanted_in d j a.0, room_in d j x a.1)
