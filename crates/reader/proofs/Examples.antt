-- Examples, computed from the definitions.
use Rattle.checks.specs.declared.refusals.Refusal.{Refusal}
use Rattle.std.specs.Prelude.{Ok, Err}
use mathlib.Core.Path.{◌≡◌, refl}
use mathlib.Core.List.{[], ◌∷◌}
use Rattle.groups.specs.Groups.{read_from}
use Rattle.documents.specs.Walk.{walk, form}
use Rattle.reader.specs.Answer.{unpacked, settlement_read, settlement_packed}

abbrev pub Tickets : Type 0
Tickets =
    (unpacked [] ≡ Err Refusal.Ends)
    × (unpacked (0x80 ∷ 0x80 ∷ []) ≡ Err Refusal.TooLong)
    × (unpacked (0x81 ∷ 0x00 ∷ []) ≡ Err Refusal.Padded)
    × (unpacked (0x02 ∷ []) ≡ Err Refusal.WrongKind)
    × (unpacked (0x01 ∷ 0x00 ∷ []) ≡ Err Refusal.PartiesOutOfRange)
    × (unpacked (0x01 ∷ 0x11 ∷ []) ≡ Err Refusal.PartiesOutOfRange)
    × (unpacked (0x01 ∷ 0x01 ∷ 0x01 ∷ 0x3D ∷ []) ≡ Err Refusal.HoursAboveLimit)
    × (unpacked (0x01 ∷ 0x01 ∷ 0x01 ∷ 0x3C ∷ 0x02 ∷ 0x01 ∷ 0xF5 ∷ 0x03 ∷ []) ≡ Err Refusal.AboveLimit)
    × (unpacked (0x01 ∷ 0x01 ∷ 0x01 ∷ 0x3C ∷ 0x02 ∷ 0x00 ∷ 0x01 ∷ []) ≡ Err Refusal.AmountWithoutCap)
    × (unpacked (0x01 ∷ 0x01 ∷ 0x01 ∷ 0x3C ∷ 0x02 ∷ 0x01 ∷ 0xF4 ∷ 0x03 ∷ 0x03 ∷ 0x00 ∷ 0x00 ∷ [])
    ≡ Ok (1 ∷ 1 ∷ 1 ∷ 60 ∷ 2 ∷ 1 ∷ 500 ∷ 3 ∷ 0 ∷ 0 ∷ []))
    × (unpacked (0x01 ∷ 0x01 ∷ 0x01 ∷ 0x03 ∷ 0x02 ∷ 0x01 ∷ 0x04 ∷ 0x03 ∷ 0x00 ∷ 0x00 ∷ 0x00 ∷ []) ≡ Err Refusal.NumbersLeft)

pub tickets : Tickets
unfolding form walk read_from
tickets = (refl, refl, refl, refl, refl, refl, refl, refl, refl, refl, refl)

-- Parties without hours: the grower, the pilot; a free cap; 7 before 18 at the same cap, and 18 before a later 8. Without caps they pass.
abbrev pub WithoutHours : Type 0
WithoutHours =
    (unpacked (0x01 ∷ 0x01 ∷ 0x01 ∷ 0x00 ∷ 0x02 ∷ 0x01 ∷ []) ≡ Err Refusal.CapWithoutHours)
    × (unpacked (0x01 ∷ 0x01 ∷ 0x01 ∷ 0x02 ∷ 0x00 ∷ 0x01 ∷ []) ≡ Err Refusal.CapWithoutHours)
    × (unpacked (0x01 ∷ 0x01 ∷ 0x02 ∷ 0x02 ∷ 0x02 ∷ 0x00 ∷ 0x00 ∷ 0x00 ∷ 0x00 ∷ 0x01 ∷ 0x05 ∷ 0x00 ∷ 0x00 ∷ 0x00 ∷ 0x01 ∷ []) ≡ Err Refusal.CapWithoutHours)
    × (unpacked (0x01 ∷ 0x01 ∷ 0x01 ∷ 0x00 ∷ 0x02 ∷ 0x3D ∷ []) ≡ Err Refusal.AboveLimit)
    × (unpacked (0x01 ∷ 0x01 ∷ 0x01 ∷ 0x00 ∷ 0x02 ∷ 0x00 ∷ 0x01 ∷ []) ≡ Err Refusal.AmountWithoutCap)
    × (unpacked (0x01 ∷ 0x01 ∷ 0x01 ∷ 0x00 ∷ 0x02 ∷ 0x00 ∷ 0x00 ∷ 0x00 ∷ 0x01 ∷ 0x00 ∷ []) ≡ Err Refusal.CapWithoutHours)
    × (unpacked (0x01 ∷ 0x01 ∷ 0x01 ∷ 0x00 ∷ 0x00 ∷ 0x00 ∷ 0x00 ∷ 0x00 ∷ 0x00 ∷ 0x00 ∷ [])
    ≡ Ok (1 ∷ 1 ∷ 1 ∷ 0 ∷ 0 ∷ 0 ∷ 0 ∷ 0 ∷ 0 ∷ 0 ∷ []))

pub without_hours_lem : WithoutHours
unfolding form walk read_from
without_hours_lem = (refl, refl, refl, refl, refl, refl, refl)

-- Settlements of a ticket with one grower and one pilot. In a list a number of three groups is refused as its second byte would be.
abbrev pub Settlements : Type 0
Settlements =
    (settlement_read 1 1 (0x02 ∷ 0x01 ∷ 0x01 ∷ 0x01 ∷ 0x00 ∷ []) ≡ Err Refusal.SettlementEnds)
    × (settlement_read 1 1 (0x80 ∷ 0x80 ∷ []) ≡ Err Refusal.SettlementTooLong)
    × (settlement_read 1 1 (0x82 ∷ 0x00 ∷ []) ≡ Err Refusal.SettlementPadded)
    × (settlement_read 1 1 (0x01 ∷ []) ≡ Err Refusal.SettlementWrongKind)
    × (settlement_read 1 1 (0x02 ∷ 0x02 ∷ []) ≡ Err Refusal.OtherParties)
    × (settlement_read 1 1 (0x02 ∷ 0x01 ∷ 0x02 ∷ []) ≡ Err Refusal.OtherParties)
    × (settlement_read 1 1 (0x02 ∷ 0x01 ∷ 0x01 ∷ 0x01 ∷ 0x00 ∷ 0x00 ∷ 0x00 ∷ []) ≡ Err Refusal.SettlementNumbersLeft)
    × (settlement_read 1 1 (0x02 ∷ 0x01 ∷ 0x01 ∷ 0x01 ∷ 0x00 ∷ 0x00 ∷ []) ≡ Ok (2 ∷ 1 ∷ 1 ∷ 1 ∷ 0 ∷ 0 ∷ []))
    × (settlement_packed 1 1 (2 ∷ 1 ∷ 1 ∷ 16384 ∷ []) ≡ Err Refusal.SettlementTooLong)
    × (settlement_packed 1 1 (16384 ∷ []) ≡ Err Refusal.SettlementTooLong)

pub settlements : Settlements
unfolding form walk read_from
settlements = (refl, refl, refl, refl, refl, refl, refl, refl, refl, refl)
