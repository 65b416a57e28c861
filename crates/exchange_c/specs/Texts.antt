-- What C asks the text of.
-- Assumes nothing.
use Rattle.std.specs.Prelude.{ℕ, zero, suc}
use Rattle.texts.specs.declared.Meaning.{Meaning}

-- 0 stands for refusals, every other number for verdicts.
abbrev pub meaning_of : ℕ → Meaning
meaning_of zero = Meaning.Refusal
meaning_of (suc what) = Meaning.Verdict
