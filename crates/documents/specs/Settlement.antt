-- The settlement of a ticket with n growers and m pilots: kind, n, m, and then for each pair tariff hours, free-deal hours and pay.
use Rattle.std.specs.Prelude.{ℕ, zero, suc, ◌*◌}
use Rattle.documents.specs.declared.State.{State}
use Rattle.documents.specs.State.{passed, with_parties}

-- The state after x at a place.
abbrev pub place_after : ℕ → State → ℕ → State
place_after zero s x = passed s
place_after (suc zero) s x = with_parties s x s.pilots
place_after (suc (suc zero)) s x = with_parties s s.growers x
place_after (suc (suc (suc p))) s x = passed s

abbrev pub settlement_after : State → ℕ → State
settlement_after s x = place_after s.place s x

-- Three numbers for each pair.
abbrev pub settlement_body : State → ℕ
settlement_body s = 3 * (s.growers * s.pilots)
