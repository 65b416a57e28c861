-- `accounts::account_numbers` meets its contract: gains are listed, then pays and commissions.
use Prim.Native.Nat.{ℕ}
use mathlib.Core.Path.{ap₂}
use mathlib.Core.List.{List}
use native.Mathlib.Omega.{arith}
use Rattle.tables.specs.View.{ticket_of, settlement_of}
use Rattle.accounts.proofs.ListLaws.{numbers_listed}
use Rattle.accounts.proofs.account_numbers.Goals as goal

pub returns : goal.returns
returns c = let s = c.args in
    let e = numbers_listed (ticket_of s.ticket.now) (settlement_of s.settlement.now) _ _
    c.gains.result c.pays.result _ _ _
    c.growers-growers.ensures.0 c.pilots-pilots.ensures.0 c.gains.ensures c.pays.ensures
    c.no_numbers-list.ensures c.list_gains.ensures c.list_pays.ensures in
    ap₂ (λ (k : ℕ) (l : List ℕ). record { count = k; list = l }) (omega (arith, e.0)) e.1
