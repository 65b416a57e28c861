-- What a new ticket is beside the old one, in market's words. That it is so is shown in proofs/NewTickets.antt.
-- Assumes nothing.
use Rattle.std.specs.Prelude.{Result, Ok}
use Rattle.checks.specs.declared.refusals.Refusal.{Refusal}
use Rattle.std.specs.Prelude.{ℕ, ◌+◌, ◌-◌, ◌≤◌, ◌<◌, min, ◌≡◌, List, get_or, length}
use Rattle.market.specs.Market.{Ticket}
use Rattle.reader.specs.Values.{Counts}
use Rattle.reader.specs.Answer.{unpacked}
use Rattle.tables.specs.View.{growers_of, ticket_of}
use Rattle.settler.specs.Settled.{room_for, SettledIn, Settled}
use Rattle.window_lists.specs.Windows.{common_hours}
use Rattle.windows.specs.Narrowed.{narrowed, refusal_for}

-- A pair of the new ticket and of the old one, whose parties have so many hours in common.
pub record NarrowsPair (common : ℕ) (old new : Ticket) (i j : ℕ) : Type 0 where
  pub tariff_cap : new.tariff_cap i j ≡ min (old.tariff_cap i j) common
  pub free_cap : new.free_cap i j ≡ min (old.free_cap i j) (common - new.tariff_cap i j)
  -- so no cap is higher than it was, and both together fit
  pub tariff_falls : new.tariff_cap i j ≤ old.tariff_cap i j
  pub free_falls : new.free_cap i j ≤ old.free_cap i j
  pub fits : new.tariff_cap i j + new.free_cap i j ≤ common
  -- amounts stay, but for those of a cap that is 0
  pub tariff_kept : 0 < new.tariff_cap i j → (new.tariff_gain i j ≡ old.tariff_gain i j) × (new.tariff_pay i j ≡ old.tariff_pay i j)
  pub free_kept : 0 < new.free_cap i j → new.joint_gain i j ≡ old.joint_gain i j
  pub tariff_cleared : new.tariff_cap i j ≡ 0 → (new.tariff_gain i j ≡ 0) × (new.tariff_pay i j ≡ 0)
  pub free_cleared : new.free_cap i j ≡ 0 → new.joint_gain i j ≡ 0

-- All pairs are narrowed, and everybody is as he was.
pub record Narrows (common : ℕ → ℕ → ℕ) (old new : Ticket) : Type 0 where
  pub growers : new.growers ≡ old.growers
  pub pilots : new.pilots ≡ old.pilots
  pub grower_hours : (i : ℕ) → i < old.growers → new.grower_hours i ≡ old.grower_hours i
  pub pilot_hours : (j : ℕ) → j < old.pilots → new.pilot_hours j ≡ old.pilot_hours j
  pub grower_standby : (i : ℕ) → i < old.growers → new.grower_standby i ≡ old.grower_standby i
  pub pilot_standby : (j : ℕ) → j < old.pilots → new.pilot_standby j ≡ old.pilot_standby j
  pub pairs : (i j : ℕ) → i < old.growers → j < old.pilots → NarrowsPair (common i j) old new i j

-- A file that windows make of a ticket.
pub record NewTicket (ticket windows file : List ℕ) : Type 0 where
  pub old : List ℕ
  pub is_ticket : unpacked ticket ≡ Ok old
  pub passing : refusal_for windows old ≡ Ok tt
  -- it passes the ticket's checks: the narrowed numbers are unpacked
  pub unpacks : unpacked file ≡ Ok (narrowed windows old)
  pub kind : get_or (narrowed windows old) 0 0 ≡ get_or old 0 0
  pub narrows : Narrows (common_hours windows (growers_of old)) (ticket_of old) (ticket_of (narrowed windows old))
  -- what settling writes where it has room is a sound settlement of it
  pub settles : (lent after : List ℕ) (r : Result ℕ Refusal) → Settled file lent after r → room_for (narrowed windows old) ≤ length lent →
      (count : ℕ) × Counts r count × SettledIn file (narrowed windows old) lent after count
