-- Deals by their number: 0 is the tariff deal, 1 the free deal.
-- Assumes nothing.
use Prim.Native.Nat.{◌<◌}
use mathlib.Core.Path.{◌≡◌, refl}
use lib.Dec.{lit<}
use Rattle.market.specs.declared.Deal.{Deal}
use Rattle.market.specs.declared.Deal.TheVariants.{Tariff, Free}
use Rattle.marker.specs.Verdict.{deal_at, deal_number}

pub deal_of_number : (d : Deal) → deal_at (deal_number d) ≡ d
deal_of_number Tariff = refl
deal_of_number Free = refl

pub number_small : (d : Deal) → deal_number d < 2
number_small Tariff = lit< tt
number_small Free = lit< tt
