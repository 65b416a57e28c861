-- `guess::guess` meets its contract: it answers what the certificate of its guess says, and what is certified is sound.
use Rattle.std.proofs.Common.{sym, ◌∙◌}
use Rattle.certificate.proofs.Soundness.{certified_sound}
use Rattle.guess.proofs.guess.Goals as goal

pub returns-clause-sound : goal.returns-clause-sound
returns-clause-sound c = λ yes. certified_sound _ _ (sym c.certified.ensures ∙ yes)
