-- The five numbers of a pair with lower caps.
-- Assumes nothing.
use Rattle.std.specs.Prelude.{ℕ, ◌-◌, min, eqb}
use Rattle.grid.specs.Pick.{pick}
use Rattle.offers.specs.declared.Terms.{Terms}

-- An amount of a deal with this cap: a cap of 0 clears it.
abbrev pub amount_with : ℕ → ℕ → ℕ
amount_with cap amount = pick (eqb cap 0) 0 amount

-- The five numbers with other caps.
abbrev pub with_caps : ℕ → ℕ → Terms → Terms
with_caps tariff free t = record {
  tariff_cap = tariff;
  tariff_gain = amount_with tariff t.tariff_gain;
  tariff_pay = amount_with tariff t.tariff_pay;
  free_cap = free;
  joint_gain = amount_with free t.joint_gain;
}

-- Those of a pair with so many hours in common: the tariff cap falls to them, the free cap to those that are left after it.
abbrev pub narrowed_terms : ℕ → Terms → Terms
narrowed_terms common t =
    with_caps (min t.tariff_cap common) (min t.free_cap (common - min t.tariff_cap common)) t
