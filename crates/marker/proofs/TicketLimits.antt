-- The limits of a ticket that bound its settlements.
-- Assumes nothing.
use Rattle.std.specs.Prelude.{Ok}
use Prim.Native.Nat.{ℕ, ◌+◌, ◌*◌, ◌≤◌, ◌<◌}
use mathlib.Core.Path.{◌≡◌, ap}
use mathlib.Core.List.{List}
use native.Mathlib.Nat.{add-zero}
use native.Mathlib.Omega.{arith}
use lib.ListN.{get_or}
use Rattle.market.specs.Market.{Ticket}
use Rattle.reader.specs.Answer.{unpacked}
use Rattle.reader.proofs.Facts.{unpacked_shape, unpacked_deal, DealAt}
use Rattle.tables.specs.View.{growers_of, pilots_of, ticket_of}

-- the limits of docs/FORMAT.md that bound a settlement
pub record Limits (t : Ticket) : Type 0 where
  pub growers : t.growers ≤ 16
  pub pilots : t.pilots ≤ 16
  pub tariff_cap : (i j : ℕ) → i < t.growers → j < t.pilots → t.tariff_cap i j ≤ 60
  pub tariff_gain : (i j : ℕ) → i < t.growers → j < t.pilots → t.tariff_gain i j ≤ 500
  pub tariff_pay : (i j : ℕ) → i < t.growers → j < t.pilots → t.tariff_pay i j ≤ 500
  pub free_cap : (i j : ℕ) → i < t.growers → j < t.pilots → t.free_cap i j ≤ 60
  pub joint_gain : (i j : ℕ) → i < t.growers → j < t.pilots → t.joint_gain i j ≤ 500

-- a ticket that passes its checks keeps them
module _ (bytes xs : List ℕ) (is : unpacked bytes ≡ Ok xs) where
  deal : (i j : ℕ) → i < growers_of xs → j < pilots_of xs → DealAt xs (3 + growers_of xs + pilots_of xs + 5 * (i * pilots_of xs + j))
  deal = unpacked_deal bytes xs is

  pub limits : Limits (ticket_of xs)
  limits = record {
    growers = (unpacked_shape bytes xs is).growers.1;
    pilots = (unpacked_shape bytes xs is).pilots.1;
    tariff_cap = λ i j hi hj. omega (
      arith,
      ap (λ (p : ℕ). get_or xs p 0) (add-zero (3 + growers_of xs + pilots_of xs + 5 * (i * pilots_of xs + j))),
      (deal i j hi hj).tariff_capped,
    );
    tariff_gain = λ i j hi hj. (deal i j hi hj).gain_capped;
    tariff_pay = λ i j hi hj. (deal i j hi hj).pay_capped;
    free_cap = λ i j hi hj. (deal i j hi hj).free_capped;
    joint_gain = λ i j hi hj. (deal i j hi hj).free_gain_capped;
  }
