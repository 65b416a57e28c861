-- Where a ticket has no tariff deals, no feasible settlement of it is worth more than the one that settling writes.
-- Assumes nothing.
use Rattle.std.specs.Prelude.{Ok}
use Prim.Native.Nat.{ℕ, ◌≤◌}
use mathlib.Core.Path.{◌≡◌, ap}
use mathlib.Core.List.{List}
use lib.ListN.{take}
use Rattle.market.specs.Market.{Settlement, Feasible}
use Rattle.market.specs.Totals.{NoTariffDeals, total_worth}
use Rattle.reader.specs.Answer.{unpacked, settlement_read}
use Rattle.tables.specs.View.{growers_of, pilots_of, ticket_of, settlement_of}
use Rattle.verdicts.specs.Values.{verdict_number, verdict_worth}
use Rattle.marker.specs.Marked.{marked}
use Rattle.marker.proofs.BestWorth.{worth_of-marked, best_worth}
use Rattle.settler.specs.Settled.{Settled}
use Rattle.settler.proofs.Answering.{done_settled}

module _ (ticket xs lent after : List ℕ) (count : ℕ) (passes : unpacked ticket ≡ Ok xs)
    (settled : Settled ticket lent after (Ok count)) where
  -- Marking finds what was written sound.
  pub settled_marks_sound : verdict_number (marked ticket (take count after)) ≡ 1
  settled_marks_sound = ap verdict_number (done_settled ticket xs lent after passes count settled).marks

  module _ (none : NoTariffDeals (ticket_of xs)) where
    -- The worth that marking gives is that of what was written.
    pub settled-worth : (ys : List ℕ) → settlement_read (growers_of xs) (pilots_of xs) (take count after) ≡ Ok ys →
        verdict_worth (marked ticket (take count after)) ≡ total_worth (ticket_of xs) (settlement_of ys).hours
    settled-worth = worth_of-marked ticket xs passes none (take count after) settled_marks_sound

    pub settled_best : (x : Settlement) → Feasible (ticket_of xs) x →
        total_worth (ticket_of xs) x.hours ≤ verdict_worth (marked ticket (take count after))
    settled_best = best_worth ticket xs passes none (take count after) settled_marks_sound
