-- `layouts::reading::stands` meets its contract: what std finds at the front of a text is what it begins with.
use Prim.Native.Nat.{◌-◌}
use mathlib.Core.Path.{ap, ◌∙◌}
use native.Mathlib.Omega.{arith}
use lib.ListN.{length, drop, length-drop}
use lib.Seq.{take_all}
use Rattle.layouts.specs.Reading.{starts_with}
use Rattle.layouts.proofs.ReadingLaws.{front_told}
use Rattle.layouts.proofs.reading.stands.Goals as goal

pub returns : goal.returns
returns c = let a = c.args in
    let rest = drop a.at a.text.now in
    c.starts_with.ensures.value
    ∙ front_told a.words.now _
    ∙ ap (starts_with a.words.now) (take_all (length a.text.now - a.at) rest (omega (arith, length-drop a.at a.text.now)))
