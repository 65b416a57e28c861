-- The new ticket that everybody's windows make of a ticket: caps that fit the hours which a grower and a pilot have in common. What these
-- leave of a pair's five numbers stands in `pair_caps`.
-- Assumes nothing.
use Rattle.std.specs.Prelude.{Ok, Err}
use Rattle.std.specs.Prelude.{ℕ, zero, suc, ◌+◌, ◌*◌, ◌/◌, ◌%◌, List}
use Rattle.checks.specs.Refusals.{Checked, giving}
use Rattle.groups.specs.Groups.{pack}
use Rattle.offers.specs.declared.Terms.{Terms}
use Rattle.reader.specs.Walk.{Outcome}
use Rattle.reader.specs.Answer.{unpacked}
use Rattle.tables.specs.declared.Quantity.TheVariants.{TariffCap, TariffGain, TariffPay, FreeCap, JointGain}
use Rattle.tables.specs.View.{growers_of, pilots_of, quantity_of}
use Rattle.ticket_calls.specs.declared.Party.TheVariants.{Grower}
use Rattle.ticket_calls.specs.Calls.{with_terms}
use Rattle.pair_caps.specs.PairCaps.{narrowed_terms}
use Rattle.window_lists.specs.Windows.{common_hours}
use Rattle.window_lists.specs.WindowRefusals.{windows_refusal}

-- The five numbers of grower i and pilot j in a ticket's list.
abbrev pub terms_of : List ℕ → ℕ → ℕ → Terms
terms_of list i j = record {
  tariff_cap = quantity_of TariffCap list i j;
  tariff_gain = quantity_of TariffGain list i j;
  tariff_pay = quantity_of TariffPay list i j;
  free_cap = quantity_of FreeCap list i j;
  joint_gain = quantity_of JointGain list i j;
}

-- A ticket's list with the pair i j narrowed, with the first k pairs, counted grower by grower, and with all.
abbrev pub narrowed_pair : (ℕ → ℕ → ℕ) → ℕ → ℕ → List ℕ → List ℕ
narrowed_pair common i j list = with_terms (Grower i) j (narrowed_terms (common i j) (terms_of list i j)) list

unfoldable pub narrowed_pairs : (ℕ → ℕ → ℕ) → ℕ → List ℕ → List ℕ
narrowed_pairs common zero list = list
narrowed_pairs common (suc k) list =
    narrowed_pair common (k / pilots_of list) (k % pilots_of list) (narrowed_pairs common k list)

abbrev pub narrowed : List ℕ → List ℕ → List ℕ
narrowed windows list = narrowed_pairs (common_hours windows (growers_of list)) (growers_of list * pilots_of list) list

-- The refusal of the windows of a ticket's growers and pilots.
abbrev pub refusal_for : List ℕ → List ℕ → Checked
refusal_for windows list = windows_refusal windows (growers_of list + pilots_of list)

-- The new ticket's bytes: the ticket's refusals come first, then those of the windows, and no others.
abbrev pub narrowed_as : List ℕ → Outcome → Outcome
narrowed_as windows (Err w) = Err w
narrowed_as windows (Ok list) = giving (refusal_for windows list) (pack (narrowed windows list))

abbrev pub new_ticket_of : List ℕ → List ℕ → Outcome
new_ticket_of ticket windows = narrowed_as windows (unpacked ticket)
