-- How far a pair and its pilot bear a rise of his price, if he is marked.
-- Assumes nothing.
use Rattle.std.specs.Prelude.{ℕ, suc, ◌*◌, ◌-◌, min, Bool, ◌&&◌, ltb}
use Rattle.grid.specs.Pick.{pick}
use Rattle.offers.specs.declared.Terms.{Terms}
use Rattle.offers.specs.declared.Agreed.{Agreed}
use Rattle.offers.specs.Chances.{tariff_chance, greater_chance}

-- no price is higher: 18 times the largest amount of 16 bits, and 1
abbrev pub top_price : ℕ
top_price = 1179631

-- more than any hour is worth
abbrev pub many : ℕ
many = 2000000

-- the least that a free-deal hour with a marked pilot is worth to its grower, and 1; an old hour, which pays one eighteenth less, one more
abbrev pub worth_here : Bool → Terms → Agreed → ℕ → ℕ
worth_here marked terms agreed price =
    pick marked
    (pick (ltb 0 agreed.new_free) (suc (18 * terms.joint_gain) - price)
    (pick (ltb 0 agreed.old_free) (suc (suc (18 * terms.joint_gain)) - price) many)) many

-- the rise after which a tariff hour with a marked pilot still pays the price, or one eighteenth less
abbrev pub tariff_slack : ℕ → Bool → Terms → Agreed → ℕ → ℕ
tariff_slack by marked terms agreed price = pick (marked && ltb 0 agreed.by_tariff) (min by (suc (18 * terms.tariff_pay) - price)) by

-- the greater chance, but for the free deal with a marked pilot
abbrev pub outside_of : Bool → Terms → Agreed → ℕ → ℕ
outside_of marked terms agreed price = pick marked (tariff_chance terms agreed price) (greater_chance terms agreed price)

-- what pilots bear by themselves, with one more: nothing, if he is marked and has a free hour
abbrev pub pilot_slack : ℕ → Bool → ℕ → ℕ → ℕ
pilot_slack by marked free price = pick marked (pick (ltb 0 free) 0 (min by (top_price - price))) by
