-- `texts::meanings::early_refusal` meets its contract: each number has the text that stands at it, and below 11 only 0 is left.
use borrow.Author.Rules.{rules}
use Rattle.texts.proofs.MeaningLaws.{no_early_refusal}
use Rattle.texts.proofs.meanings.early_refusal.Goals as goal

pub returns-in-1 : goal.returns-in-1
returns-in-1 c = rw c.in-1.is c.word.ensures

pub returns-in-2 : goal.returns-in-2
returns-in-2 c = rw c.in-2.is c.word-in-2.ensures

pub returns-in-3 : goal.returns-in-3
returns-in-3 c = rw c.in-3.is c.word-in-3.ensures

pub returns-in-4 : goal.returns-in-4
returns-in-4 c = rw c.in-4.is c.word-in-4.ensures

pub returns-in-5 : goal.returns-in-5
returns-in-5 c = rw c.in-5.is c.word-in-5.ensures

pub returns-in-6 : goal.returns-in-6
returns-in-6 c = rw c.in-6.is c.word-in-6.ensures

pub returns-in-7 : goal.returns-in-7
returns-in-7 c = rw c.in-7.is c.word-in-7.ensures

pub returns-in-8 : goal.returns-in-8
returns-in-8 c = rw c.in-8.is c.word-in-8.ensures

pub returns-in-9 : goal.returns-in-9
returns-in-9 c = rw c.in-9.is c.word-in-9.ensures

pub returns-in-10 : goal.returns-in-10
returns-in-10 c = rw c.in-10.is c.word-in-10.ensures

pub returns-in_default : goal.returns-in_default
returns-in_default c = rw (no_early_refusal c.args.why c.requires.0 (search rules)) c.word-in_default.ensures
