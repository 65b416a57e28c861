-- Pays and their commissions in cents, and what odd lists of bands charge, computed from the definitions.
-- Assumes nothing.
use mathlib.Core.Path.{◌≡◌, refl}
use mathlib.Core.List.{[], ◌∷◌}
use Rattle.commission.specs.Bands.{charged_from, charged, commission}

-- Pays of 0, 1, 199, 200, 201, 799, 800, 801 and 30,000 euros, and the most cents of 32 bits. Those of 1, 199 and 801 end on half a cent.
pub pays :
    (commission 0 ≡ 0) × (commission 100 ≡ 7) × (commission 19900 ≡ 1294) × (commission 20000 ≡ 1300) × (commission 20100 ≡ 1304)
    × (commission 79900 ≡ 3816) × (commission 80000 ≡ 3820) × (commission 80100 ≡ 3823) × (commission 3000000 ≡ 76820)
    × (commission 4294967295 ≡ 107376002)
unfolding charged_from
pays = (refl, refl, refl, refl, refl, refl, refl, refl, refl, refl)

-- On 70 cents: no bands; a bound alone; a rate above 1,000; a bound that falls, so that its band is empty.
pub odd_lists :
    (charged [] 70 ≡ 0) × (charged (50 ∷ 100 ∷ 60 ∷ []) 70 ≡ 5000) × (charged (50 ∷ 2000 ∷ []) 70 ≡ 70000)
    × (charged (50 ∷ 100 ∷ 40 ∷ 900 ∷ 60 ∷ 200 ∷ []) 70 ≡ 9000)
unfolding charged_from
odd_lists = (refl, refl, refl, refl)
