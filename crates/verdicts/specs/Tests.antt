-- The tests on numbers that are asked of a pair and of a deal, and the cheapest spare of a party for a deal. d and e are deals.
-- Assumes nothing.
use Rattle.std.specs.Prelude.{None, Option, Some}
use Rattle.std.specs.Prelude.{ℕ, zero, suc, ◌+◌, min, Bool, true, false, cond, ◌&&◌, ◌||◌, List, ltb, eqb, get_or}
use Rattle.market.specs.declared.Deal.{Deal}
use Rattle.market.specs.declared.Deal.TheVariants.{Tariff, Free}
use Rattle.market.specs.Tables.{by_deal}

-- pay wrong: above the joint gain, or not 0 where the pair has no free hours
abbrev pub pay_test : ℕ → ℕ → ℕ → Bool
pay_test gain hours pay = ltb gain pay || (eqb hours 0 && ltb 0 pay)

-- something is wrong with a pair: tariff hours over cap, free-deal hours over cap, pay wrong
abbrev pub pair_test : ℕ → ℕ → ℕ → ℕ → ℕ → ℕ → Bool
pair_test tariff_hours tariff_cap free_deal_hours free_cap pay gain =
    ltb tariff_cap tariff_hours || (ltb free_cap free_deal_hours || pay_test gain free_deal_hours pay)

-- idle: a deal below its cap while both parties have free hours
abbrev pub idle_test : ℕ → ℕ → ℕ → ℕ → Bool
idle_test hours cap of_grower of_pilot = ltb hours cap && (ltb 0 of_grower && ltb 0 of_pilot)

-- Spares. A party's cheapest spare for a deal is nothing, or worth a number.

-- the cheaper of a spare and an hour worth w
abbrev pub cheaper : ℕ → Option ℕ → Option ℕ
cheaper w None = Some w
cheaper w (Some v) = Some (min v w)

-- the same with hours that are worth w each, if there are any
abbrev pub count_in : ℕ → ℕ → Option ℕ → Option ℕ
count_in hours w s = cond (ltb 0 hours) (cheaper w s) s

-- the same for both deals with each of k partners
unfoldable pub cheapest_of : Option ℕ → (Deal → ℕ → ℕ) → (Deal → ℕ → ℕ) → ℕ → Option ℕ
cheapest_of s hours worth zero = s
cheapest_of s hours worth (suc k) =
    count_in (hours Free k) (worth Free k) (count_in (hours Tariff k) (worth Tariff k) (cheapest_of s hours worth k))

abbrev pub same_deal : Deal → Deal → Bool
same_deal Tariff Tariff = true
same_deal Tariff Free = false
same_deal Free Tariff = false
same_deal Free Free = true

-- a party's hours without those that it has in the deal d with the partner y itself
abbrev pub besides : Deal → ℕ → (Deal → ℕ → ℕ) → Deal → ℕ → ℕ
besides d y hours e l = cond (same_deal e d && eqb l y) 0 (hours e l)

-- the cheapest spare for the deal d with the partner y: a free hour, which is worth standby, or an hour of any other deal
abbrev pub cheapest_spare : ℕ → ℕ → (Deal → ℕ → ℕ) → (Deal → ℕ → ℕ) → ℕ → Deal → ℕ → Option ℕ
cheapest_spare free standby hours worth k d y = cheapest_of (count_in free standby None) (besides d y hours) worth k

-- two rows, one of tariff deals and one of free deals, by deal and partner
abbrev pub lines : List ℕ → List ℕ → Deal → ℕ → ℕ
lines tariff free = by_deal (λ l. get_or tariff l 0) (λ l. get_or free l 0)

-- the spare is worth less than v
abbrev pub below : Option ℕ → ℕ → Bool
below None v = false
below (Some w) v = ltb w v

-- there are two spares, and together they are worth less than v
abbrev pub both_below : Option ℕ → Option ℕ → ℕ → Bool
both_below None q v = false
both_below (Some w) None v = false
both_below (Some w) (Some u) v = ltb (w + u) v

-- an hour more outweighs two spares: those of a tariff deal are worth less than the gain and the pay, each; those of a free deal are
-- together worth less than the joint gain
abbrev pub outweighs : Deal → Option ℕ → Option ℕ → ℕ → ℕ → ℕ → Bool
outweighs Tariff of_grower of_pilot gain pay joint_gain = below of_grower gain && below of_pilot pay
outweighs Free of_grower of_pilot gain pay joint_gain = both_below of_grower of_pilot joint_gain

-- blocks: a deal below its cap of which an hour more outweighs two spares (5.8 and 5.9)
abbrev pub blocks_test : Deal → ℕ → ℕ → Option ℕ → Option ℕ → ℕ → ℕ → ℕ → Bool
blocks_test d hours cap of_grower of_pilot gain pay joint_gain = ltb hours cap && outweighs d of_grower of_pilot gain pay joint_gain
