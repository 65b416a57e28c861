-- The quick test of a list: what it looks at, and what it answers.
use Rattle.std.specs.Prelude.{Bool, false, ◌||◌, ◌&&◌, List, ℕ, ◌+◌, ◌*◌, ◌^◌, leb, ltb, eqb, is_ok, length, get_or}
use Rattle.grid.specs.Every.{every}
use Rattle.groups.specs.Groups.{groups}
use Rattle.checks.specs.declared.refusals.Document.{Document}
use Rattle.checks.specs.declared.ticket.Field.TheVariants.{Kind, Growers, Pilots, Hours}
use Rattle.checks.specs.TicketFaults.{fault_of, pair_passes}
use Rattle.checks.specs.SettlementFaults.{settlement_fault}

-- Of a ticket's list: the first three numbers, everybody's hours, five numbers from a place on, the pairs of grower i from a place on,
-- and all pairs.
abbrev pub head_passes : ℕ → ℕ → ℕ → Bool
head_passes kind n m = is_ok (fault_of Kind 0 false kind) && is_ok (fault_of Growers 0 false n) && is_ok (fault_of Pilots 0 false m)

abbrev pub hours_pass : List ℕ → ℕ → Bool
hours_pass list parties = every (λ k. is_ok (fault_of Hours 0 false (get_or list (3 + k) 0))) parties

abbrev pub pair_passes_at : Bool → List ℕ → ℕ → Bool
pair_passes_at none list p =
    pair_passes none (get_or list p 0) (get_or list (p + 1) 0) (get_or list (p + 2) 0) (get_or list (p + 3) 0) (get_or list (p + 4) 0)

abbrev pub row_passes : List ℕ → (n m i from : ℕ) → Bool
row_passes list n m i from =
    every (λ j. pair_passes_at (eqb (get_or list (3 + i) 0) 0 || eqb (get_or list (3 + n + j) 0) 0) list (from + 5 * j)) m

abbrev pub pairs_pass : List ℕ → (n m : ℕ) → Bool
pairs_pass list n m = every (λ i. row_passes list n m i (3 + n + m + 5 * (i * m))) n

-- A ticket's list: as many numbers as its growers and pilots ask for, none with a fault.
abbrev pub ticket_passes : List ℕ → Bool
ticket_passes list =
    let n = get_or list 1 0 in
    let m = get_or list 2 0 in
    eqb (length list) (3 + n + m + 5 * (n * m)) && head_passes (get_or list 0 0) n m && (hours_pass list (n + m) && pairs_pass list n m)

-- No number of a list has too many groups.
abbrev pub all_fit : List ℕ → Bool
all_fit list = every (λ k. ltb (get_or list k 0) (128 ^ groups)) (length list)

-- The list of a settlement of n growers and m pilots, which a square has room for: as many numbers as it has, none with a fault.
abbrev pub settlement_passes : (n m : ℕ) → List ℕ → Bool
settlement_passes n m list =
    leb n 16 && leb m 16 && eqb (length list) (3 + 3 * (n * m)) &&
    (is_ok (settlement_fault n m 0 (get_or list 0 0)) && is_ok (settlement_fault n m 1 (get_or list 1 0)) &&
    is_ok (settlement_fault n m 2 (get_or list 2 0)) && all_fit list)

-- Whether a list passes as a document.
abbrev pub passes_as : Document → List ℕ → Bool
passes_as Document.Ticket list = ticket_passes list
passes_as (Document.Settlement n m) list = settlement_passes n m list
