-- `layouts::reading::plain` meets its contract: what reading the list answers, with the document that its kind tells.
use mathlib.Core.Path.{refl}
use Rattle.lists.specs.NumberText.{numbers_of}
use Rattle.layouts.proofs.AnswerLaws.{plain_done}
use Rattle.layouts.proofs.reading.plain.Goals as goal

pub returns : goal.returns
returns c = let r = c.read_numbers.ensures in
    let a = c.args in
    let both = plain_done a.list.now _ (numbers_of a.text.now) c.in_ok-count.ensures.value r.list_after _ refl _ (rw c.front.ensures at c.kind_of.ensures) in
    record { value = both.0; list_after = both.1 }
