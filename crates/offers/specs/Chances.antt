-- What one more hour of a deal of one pair offers its grower at the pilot's price, if the deal is below its cap, else 0.
-- Assumes nothing.
use Rattle.std.specs.Prelude.{ℕ, suc, ◌+◌, ◌*◌, ◌-◌, max, cond, leb, ltb}
use Rattle.grid.specs.Pick.{pick}
use Rattle.market.specs.declared.Deal.{Deal}
use Rattle.market.specs.declared.Deal.TheVariants.{Tariff, Free}
use Rattle.offers.specs.declared.Terms.{Terms}
use Rattle.offers.specs.declared.Agreed.{Agreed}

abbrev pub tariff_chance : Terms → Agreed → ℕ → ℕ
tariff_chance terms agreed price =
    pick (ltb agreed.by_tariff terms.tariff_cap)
    (pick (leb price (18 * terms.tariff_pay)) (suc (18 * terms.tariff_gain)) 0) 0

abbrev pub free_chance : Terms → Agreed → ℕ → ℕ
free_chance terms agreed price =
    pick (ltb (agreed.old_free + agreed.new_free) terms.free_cap) (suc (18 * terms.joint_gain) - price) 0

abbrev pub greater_chance : Terms → Agreed → ℕ → ℕ
greater_chance terms agreed price = max (tariff_chance terms agreed price) (free_chance terms agreed price)

-- the deal of the greater chance; the tariff deal, if they are equal
abbrev pub better_deal : Terms → Agreed → ℕ → Deal
better_deal terms agreed price = cond (ltb (tariff_chance terms agreed price) (free_chance terms agreed price)) Free Tariff
