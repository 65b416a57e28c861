-- The squares that the code fills make a sound settlement of the ticket that the squares it was given make.
-- Assumes nothing.
use Prim.Native.Nat.{ℕ, ◌<◌}
use mathlib.Core.Path.{◌≡◌, refl, sym, ap}
use mathlib.Core.List.{List, []}
use Rattle.grid.specs.Grid.{Grid}
use Rattle.market.specs.declared.Deal.{Deal}
use Rattle.market.specs.declared.Deal.TheVariants.{Tariff, Free}
use Rattle.market.specs.Market.{Sound}
use Rattle.market.specs.Method.{GoodShift, hours_of}
use Rattle.market.specs.Tables.{ticket_in, settlement_in}
use Rattle.market.specs.Same.{SameTicket}
use Rattle.market.proofs.Same.{sound_same}
use Rattle.market.proofs.End.{sound}
use Rattle.offers.specs.declared.Terms.{Terms}
use Rattle.offers.specs.declared.Agreed.{Agreed}
use Rattle.method.specs.View.{line, ticket, held_in}
use Rattle.method.specs.Given.{TermsOf}
use Rattle.method.specs.State.{Ended}
use Rattle.method.specs.Result.{Flown, Beyond}

module _ (n m : ℕ) (grower_hours pilot_hours : List ℕ) (tariff_cap tariff_gain tariff_pay free_cap joint_gain : Grid) (terms : List (List Terms))
    (made : TermsOf tariff_cap tariff_gain tariff_pay free_cap joint_gain n m terms) where
  -- the square of terms makes the same ticket as the five squares
  terms_same : SameTicket (ticket n m grower_hours pilot_hours terms)
      (ticket_in n m grower_hours pilot_hours tariff_cap tariff_gain tariff_pay free_cap joint_gain)
  terms_same = record {
    growers = refl;
    pilots = refl;
    grower_hours = λ i hi. refl;
    pilot_hours = λ j hj. refl;
    tariff_cap = λ i j hi hj. sym (ap (λ (p : Terms). p.tariff_cap) (made i j hi hj));
    tariff_gain = λ i j hi hj. sym (ap (λ (p : Terms). p.tariff_gain) (made i j hi hj));
    tariff_pay = λ i j hi hj. sym (ap (λ (p : Terms). p.tariff_pay) (made i j hi hj));
    free_cap = λ i j hi hj. sym (ap (λ (p : Terms). p.free_cap) (made i j hi hj));
    joint_gain = λ i j hi hj. sym (ap (λ (p : Terms). p.joint_gain) (made i j hi hj));
    grower_standby = λ i hi. refl;
    pilot_standby = λ j hj. refl;
  }

  module _ {prices : List ℕ} {held : List (List Agreed)} {shift : ℕ} {tariff_before free_before tariff_hours free_deal_hours pay : Grid} where
    pub flown_sound : Ended (ticket n m grower_hours pilot_hours terms) prices held → GoodShift (ticket 0 m [] [] []) (line prices) shift →
        Flown held prices shift n m tariff_before free_before tariff_hours free_deal_hours pay →
        Sound (ticket_in n m grower_hours pilot_hours tariff_cap tariff_gain tariff_pay free_cap joint_gain)
        (settlement_in tariff_hours free_deal_hours pay)
    flown_sound end g f =
        sound_same terms_same (record { hours = hours; pay = f.pay_in.inner })
        (sound end.live.inv (record { small = g.small; apart = g.apart }) end.done)
      where
        hours : (d : Deal) (i j : ℕ) → i < n → j < m → (settlement_in tariff_hours free_deal_hours pay).hours d i j ≡ hours_of (held_in held) d i j
        hours Tariff = f.tariff_hours_in.inner
        hours Free = f.free_deal_hours_in.inner

pub flown_beyond : {n m : ℕ} {prices : List ℕ} {held : List (List Agreed)} {shift : ℕ}
    {tariff_before free_before tariff_hours free_deal_hours pay : Grid} →
    Flown held prices shift n m tariff_before free_before tariff_hours free_deal_hours pay →
    Beyond n m tariff_before free_before tariff_hours free_deal_hours pay
flown_beyond f = record {
  tariff_hours_kept = f.tariff_hours_in.outer;
  free_deal_hours_kept = f.free_deal_hours_in.outer;
  no_pay = f.pay_in.outer;
}
