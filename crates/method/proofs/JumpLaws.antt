-- Jumps: how far growers and pilots bear a rise of several prices, one grower or pilot after another.
-- Assumes nothing.
use Prim.Native.Nat.{ℕ, ◌+◌, ◌*◌, ◌-◌, ◌≤◌, ◌<◌}
use mathlib.Core.Bool.{Bool, true, false}
use mathlib.Core.Path.{◌≡◌, refl, sym, ◌∙◌}
use mathlib.Core.List.{List, []}
use native.Mathlib.Omega.{arith}
use borrow.Author.Tests.{lt-ltb}
use lib.ListN.{get_or, set, length, length-set}
use lib.Seq.{get_or-set_same, get_or-set_other}
use Rattle.grid.proofs.Cases.{by_index}
use Rattle.grid.specs.Pick.{pick}
use Rattle.market.specs.declared.Deal.{Deal}
use Rattle.market.specs.declared.Deal.TheVariants.{Tariff, Free}
use Rattle.market.specs.Market.{Ticket, cap}
use Rattle.market.specs.Method.{Held, by_tariff, old_free, new_free, hours_of, offer, worth}
use Rattle.offers.specs.declared.Terms.{Terms}
use Rattle.offers.specs.declared.Agreed.{Agreed}
use Rattle.offers.specs.Limits.{top_price, pilot_slack}
use Rattle.method.specs.View.{line, ticket, alone, held_in, held_by}
use Rattle.method.specs.Choice.{chance}
use Rattle.method.specs.Jumps.{among, WorthAtLeast, OffersAtMost, GrowerBears, TariffsBear, GrowersBear, PilotsBear, RaisedMarked}
use Rattle.method.proofs.PairLimits.{pilot_less, pilot-below, pilot_full}

-- Prices of which the first k are raised.
pub record Raising (prices prices' : List ℕ) (marks : List Bool) (k x : ℕ) : Type 0 where
  pub past : RaisedMarked prices prices' marks k x
  pub ahead : (j : ℕ) → k ≤ j → line prices' j ≡ line prices j

pub raising_none : (prices : List ℕ) (marks : List Bool) (x : ℕ) → length prices ≡ 16 → Raising prices prices marks 0 x
raising_none prices marks x h =
    record { past = record { sixteen = h; price = λ j l. absurd (omega arith) }; ahead = λ j l. refl }

module _ (prices prices' prices'' : List ℕ) (marks : List Bool) (k x : ℕ) (r : Raising prices prices' marks k x) where
  pub raising_marked : k < 16 → among marks k ≡ true → prices'' ≡ set prices' k (line prices' k + x) →
      Raising prices prices'' marks (k + 1) x
  raising_marked h m e = rw e (record {
    past = record {
      sixteen = length-set prices' k (line prices' k + x) ∙ r.past.sixteen;
      price = by_index
          (λ j. j < k + 1 → line (set prices' k (line prices' k + x)) j ≡ line prices j + pick (among marks j) x 0) k
          (λ _. rw m
          (omega (arith, get_or-set_same prices' k (line prices' k + x) 0 (omega (arith, r.past.sixteen)), r.ahead k (omega arith))))
          (λ j ne l. get_or-set_other prices' k j (line prices' k + x) 0 ne ∙ r.past.price j (omega arith));
    };
    ahead = λ j l. get_or-set_other prices' k j (line prices' k + x) 0 (λ q. omega arith) ∙ r.ahead j (omega arith);
  })

  pub raising_left : among marks k ≡ false → prices'' ≡ prices' → Raising prices prices'' marks (k + 1) x
  raising_left m e = rw e (record {
    past = record {
      sixteen = r.past.sixteen;
      price = by_index (λ j. j < k + 1 → line prices' j ≡ line prices j + pick (among marks j) x 0) k
          (λ _. rw m (omega (arith, r.ahead k (omega arith))))
          (λ j ne l. r.past.price j (omega arith));
    };
    ahead = λ j l. r.ahead j (omega arith);
  })

pub raising_end : (prices prices' : List ℕ) (marks : List Bool) (k l x : ℕ) → k ≡ l → Raising prices prices' marks k x →
    RaisedMarked prices prices' marks l x
raising_end prices prices' marks k l x e r = rw (sym e) r.past

module _ (t : Ticket) (chosen : ℕ → Bool) (price : ℕ → ℕ) (held : Held) (i : ℕ) where
  pub worth-none : (low : ℕ) → WorthAtLeast t chosen price held i 0 low
  worth-none low = record { old = λ j h. absurd (omega arith); new = λ j h. absurd (omega arith) }

  pub worth_more : (k low low' : ℕ) → low' ≤ low →
      (chosen k ≡ true → 0 < held old_free i k → low' ≤ worth t price old_free i k) →
      (chosen k ≡ true → 0 < held new_free i k → low' ≤ worth t price new_free i k) →
      WorthAtLeast t chosen price held i k low → WorthAtLeast t chosen price held i (k + 1) low'
  worth_more k low low' a o n w = record {
    old = by_index (λ j. j < k + 1 → chosen j ≡ true → 0 < held old_free i j → low' ≤ worth t price old_free i j) k
        (λ _. o)
        (λ j ne h m p. omega (arith, w.old j (omega arith) m p));
    new = by_index (λ j. j < k + 1 → chosen j ≡ true → 0 < held new_free i j → low' ≤ worth t price new_free i j) k
        (λ _. n)
        (λ j ne h m p. omega (arith, w.new j (omega arith) m p));
  }

  pub offers_none : OffersAtMost t chosen price held i 0 1
  offers_none = record { some = omega arith; tariff = λ l h. absurd (omega arith); free = λ l h. absurd (omega arith) }

  pub offers_more : (k top top' : ℕ) → top ≤ top' → chance t price held i Tariff k ≤ top' →
      (chosen k ≡ false → chance t price held i Free k ≤ top') → OffersAtMost t chosen price held i k top →
      OffersAtMost t chosen price held i (k + 1) top'
  offers_more k top top' a tariff free o = record {
    some = omega (arith, o.some);
    tariff = by_index (λ l. l < k + 1 → chance t price held i Tariff l ≤ top') k (λ _. tariff)
        (λ l ne h. omega (arith, o.tariff l (omega arith)));
    free = by_index (λ l. l < k + 1 → chosen l ≡ false → chance t price held i Free l ≤ top') k (λ _. free)
        (λ l ne h m. omega (arith, o.free l (omega arith) m));
  }

  pub worth_end_lem : (k l low : ℕ) → k ≡ l → WorthAtLeast t chosen price held i k low → WorthAtLeast t chosen price held i l low
  worth_end_lem k l low e w = rw (sym e) w

  pub offers_end : (k l top : ℕ) → k ≡ l → OffersAtMost t chosen price held i k top → OffersAtMost t chosen price held i l top
  offers_end k l top e o = rw (sym e) o

  offered_at_most : (d : Deal) (l top : ℕ) → hours_of held d i l < cap t d i l → chance t price held i d l ≤ top →
      offer t price d i l ≤ top
  offered_at_most d l top room h = rw (lt-ltb (hours_of held d i l) (cap t d i l) room) at h

  -- a grower whose free hour is worth nothing bears the difference of the two
  pub grower_bears : (low top : ℕ) → t.grower_standby i ≡ 0 → WorthAtLeast t chosen price held i t.pilots low →
      OffersAtMost t chosen price held i t.pilots top → GrowerBears t chosen price held i (low - top)
  grower_bears low top e w o = λ x some le. (
    low,
    record {
      old = w.old;
      new = w.new;
      standby = omega (arith, o.some);
      tariff = λ l hl room. omega (arith, offered_at_most Tariff l top room (o.tariff l hl));
      free = λ l hl m room. omega (arith, offered_at_most Free l top room (o.free l hl m));
    },
  )

module _ (t : Ticket) (chosen : ℕ → Bool) (price : ℕ → ℕ) (held : Held) (i : ℕ) where
  pub tariffs_none : (r : ℕ) → TariffsBear t chosen price held i 0 r
  tariffs_none r = record { each = λ x pos le j h. absurd (omega arith) }

  pub tariffs_more : (k r r' : ℕ) → r' ≤ r →
      (chosen k ≡ true → 0 < held by_tariff i k → r' ≤ 18 * t.tariff_pay i k + 1 - price k) →
      TariffsBear t chosen price held i k r → TariffsBear t chosen price held i (k + 1) r'
  tariffs_more k r r' a here b = record {
    each = λ x pos le. by_index
        (λ j. j < k + 1 → chosen j ≡ true → 0 < held by_tariff i j → price j + x ≤ 18 * t.tariff_pay i j + 1) k
        (λ _ m h. omega (arith, here m h))
        (λ j ne l m h. b.each x pos (omega arith) j (omega arith) m h);
  }

  pub tariffs_end : (k l r : ℕ) → k ≡ l → TariffsBear t chosen price held i k r → TariffsBear t chosen price held i l r
  tariffs_end k l r e b = rw (sym e) b

module _ (t : Ticket) (chosen : ℕ → Bool) (price : ℕ → ℕ) (held : Held) where
  pub growers_none : (r : ℕ) → GrowersBear t chosen price held 0 r
  growers_none r = record { grower = λ i h. absurd (omega arith); tariffs = λ i h. absurd (omega arith) }

  -- every grower bears a rise of 0
  pub growers_still : (k : ℕ) → GrowersBear t chosen price held k 0
  growers_still k = record {
    grower = λ i h x pos le. absurd (omega arith);
    tariffs = λ i h. record { each = λ x pos le. absurd (omega arith) };
  }

  -- what one grower and his tariff hours bear
  pub growers_one : (r paid here : ℕ) → r ≤ paid → r ≤ here → TariffsBear t chosen price held 0 t.pilots paid →
      GrowerBears t chosen price held 0 here → GrowersBear t chosen price held 1 r
  growers_one r paid here a b tariffs grower = record {
    grower = by_index (λ i. i < 1 → GrowerBears t chosen price held i r) 0 (λ _ x pos le. grower x pos (omega arith))
        (λ i ne h. absurd (omega arith));
    tariffs = by_index (λ i. i < 1 → TariffsBear t chosen price held i t.pilots r) 0
        (λ _. record { each = λ x pos le. tariffs.each x pos (omega arith) }) (λ i ne h. absurd (omega arith));
  }

  pub growers_end : (k l r : ℕ) → k ≡ l → GrowersBear t chosen price held k r → GrowersBear t chosen price held l r
  growers_end k l r e all = rw (sym e) all

-- What a grower bears alone, by his rows, he bears among all; and what all bear, they bear whatever hours everybody has.
module _ (n m : ℕ) (terms : List (List Terms)) (square : List (List Agreed)) (chosen : ℕ → Bool) (price : ℕ → ℕ) where
  abbrev some : List ℕ → List ℕ → Ticket
  some grower_hours pilot_hours = ticket n m grower_hours pilot_hours terms

  pub growers_more : (k r r' : ℕ) → r' ≤ r → GrowersBear (alone m 0 (get_or terms k [])) chosen price (held_by (get_or square k [])) 1 r' →
      GrowersBear (some [] []) chosen price (held_in square) k r → GrowersBear (some [] []) chosen price (held_in square) (k + 1) r'
  growers_more k r r' le here all = record {
    grower = by_index (λ i. i < k + 1 → GrowerBears (some [] []) chosen price (held_in square) i r') k
        (λ _ x pos small.
        let g = here.grower 0 (omega arith) x pos small in (
          g.0,
          record { old = g.1.old; new = g.1.new; standby = g.1.standby; tariff = g.1.tariff; free = g.1.free },
        ))
        (λ i ne h x pos small. all.grower i (omega arith) x pos (omega arith));
    tariffs = by_index (λ i. i < k + 1 → TariffsBear (some [] []) chosen price (held_in square) i m r') k
        (λ _. record { each = (here.tariffs 0 (omega arith)).each })
        (λ i ne h. record { each = λ x pos small. (all.tariffs i (omega arith)).each x pos (omega arith) });
  }

  pub growers_any : (grower_hours pilot_hours : List ℕ) (r : ℕ) → GrowersBear (some [] []) chosen price (held_in square) n r →
      GrowersBear (some grower_hours pilot_hours) chosen price (held_in square) n r
  growers_any grower_hours pilot_hours r b = record {
    grower = λ i h x pos le.
        let g = b.grower i h x pos le in (
          g.0,
          record { old = g.1.old; new = g.1.new; standby = g.1.standby; tariff = g.1.tariff; free = g.1.free },
        );
    tariffs = λ i h. record { each = (b.tariffs i h).each };
  }

module _ (chosen : ℕ → Bool) (free price : ℕ → ℕ) where
  pub pilots_none : (r : ℕ) → PilotsBear chosen free price 0 r
  pilots_none r = record { full = λ pos j h. absurd (omega arith); below = λ x pos le j h. absurd (omega arith) }

  pub pilots_less : (k r r' : ℕ) → r' ≤ r → PilotsBear chosen free price k r → PilotsBear chosen free price k r'
  pilots_less k r r' a all = record {
    full = λ pos. all.full (omega arith);
    below = λ x pos le. all.below x pos (omega arith);
  }

  pub pilots_more : (k r r' : ℕ) → r' ≡ pilot_slack r (chosen k) (free k) (price k) → PilotsBear chosen free price k r →
      PilotsBear chosen free price (k + 1) r'
  pilots_more k r r' e all =
      let less : r' ≤ r = rw e (pilot_less r (chosen k) (free k) (price k)) in
      record {
        full = λ pos. by_index (λ j. j < k + 1 → chosen j ≡ true → free j ≡ 0) k
            (λ _ m. pilot_full r (chosen k) (free k) (price k) m (omega arith))
            (λ j ne h. all.full (omega arith) j (omega arith));
        below = λ x pos le. by_index (λ j. j < k + 1 → chosen j ≡ true → price j + x ≤ top_price) k
            (λ _ m. omega (arith, pilot-below r (chosen k) (free k) (price k) m))
            (λ j ne h. all.below x pos (omega arith) j (omega arith));
      }

  pub pilots_end : (k l r : ℕ) → k ≡ l → PilotsBear chosen free price k r → PilotsBear chosen free price l r
  pilots_end k l r e all = rw (sym e) all
