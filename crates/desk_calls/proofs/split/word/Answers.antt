-- `desk_calls::split::word` meets its contract: after k turns the word asked for is that many places nearer.
use mathlib.Core.Path.{sym, ◌∙◌}
use native.Mathlib.Omega.{arith}
use Rattle.desk_calls.proofs.WordLaws.{word_next, word_there}
use Rattle.desk_calls.proofs.split.word.Goals as goal

pub loop-k-preserved : goal.loop-k-preserved
loop-k-preserved c = let turn = c.loop-k in
    (omega arith, word_next _ _ _ turn._k (omega arith) c.after_word-rest.ensures ∙ turn.invariant.1)

pub returns : goal.returns
returns c = let last = c.loop-k in
    c.first_word.ensures ∙ sym (word_there _ _ last._k (omega arith)) ∙ last.invariant.1
