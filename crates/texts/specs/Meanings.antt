-- What refusals and verdicts mean, in words. The numbers are those of docs/FORMAT.md.
-- Assumes nothing.
use Rattle.std.specs.Prelude.{ℕ, List, [], ◌∷◌, get_or}
use Prim.Native.String.{String}
use Rattle.ascii.specs.Texts.{codes}
use Rattle.texts.specs.declared.Meaning.{Meaning}

-- What is refused, and why, by the refusal's number.
abbrev pub refusal_texts : List String
refusal_texts =
    "no such refusal"
    ∷ "ticket: it ends early"
    ∷ "ticket: a number of more than two bytes"
    ∷ "ticket: a number padded with 00"
    ∷ "ticket: another kind of file"
    ∷ "ticket: growers or pilots not 1 to 16"
    ∷ "ticket: hours above 60"
    ∷ "ticket: a cap above 60 or an amount above 500"
    ∷ "ticket: an amount in a deal of cap 0"
    ∷ "ticket: something is left at its end"
    ∷ "answer: the buffer is too short"
    ∷ "settlement: it ends early"
    ∷ "settlement: a number of more than two bytes"
    ∷ "settlement: a number padded with 00"
    ∷ "settlement: another kind of file"
    ∷ "settlement: growers or pilots unlike the ticket's"
    ∷ "settlement: something is left at its end"
    ∷ "settlement: not sound"
    ∷ "ticket: a cap above 0, but the grower or the pilot has no hours"
    ∷ "call: no such grower or pilot"
    ∷ "call: a number breaks the limits of a ticket"
    ∷ "windows: the list ends early, has more than 8 windows of a party or numbers left"
    ∷ "windows: one is empty, past hour 168 or begins before the last has closed"
    ∷ []

-- What a verdict says of the deal or the party that it names, by its number.
abbrev pub verdict_texts : List String
verdict_texts =
    "no such verdict"
    ∷ "sound: no deal is idle or blocks"
    ∷ "more hours than its cap"
    ∷ "more hours than its cap"
    ∷ "wrong pay"
    ∷ "more hours than his own"
    ∷ "more hours than his own"
    ∷ "idle, below its cap"
    ∷ "blocks"
    ∷ []

abbrev pub refusal_text : ℕ → List ℕ
refusal_text why = codes (get_or refusal_texts why "no such refusal")

abbrev pub verdict_text : ℕ → List ℕ
verdict_text verdict = codes (get_or verdict_texts verdict "no such verdict")

abbrev pub telling_of : Meaning → ℕ → List ℕ
telling_of Meaning.Refusal number = refusal_text number
telling_of Meaning.Verdict number = verdict_text number

-- No text is longer (`text_fits`, proofs/MeaningLaws.antt).
abbrev pub text_bytes : ℕ
text_bytes = 96
