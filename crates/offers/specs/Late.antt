-- The late hours of a pair: those that pay the pilot less than his price. Old hours come before tariff hours.
-- Assumes nothing.
use Rattle.std.specs.Prelude.{ℕ, ◌*◌, Option, None, Some, cond, ◌&&◌, ltb}
use Rattle.market.specs.declared.Deal.{Deal}
use Rattle.market.specs.declared.Deal.TheVariants.{Tariff, Free}
use Rattle.offers.specs.declared.Terms.{Terms}
use Rattle.offers.specs.declared.Agreed.{Agreed}

abbrev pub late_hours : ℕ → Terms → Agreed → Option (Deal × ℕ)
late_hours price terms agreed =
    cond (ltb 0 agreed.old_free) (Some (Free, agreed.old_free))
    (cond (ltb 0 agreed.by_tariff && ltb (18 * terms.tariff_pay) price) (Some (Tariff, agreed.by_tariff)) None)
