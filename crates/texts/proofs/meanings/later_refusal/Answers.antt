-- `texts::meanings::later_refusal` meets its contract: each number has the text that stands at it, and above 22 there is none.
use borrow.Author.Rules.{rules}
use Rattle.texts.proofs.MeaningLaws.{no_refusal}
use Rattle.texts.proofs.meanings.later_refusal.Goals as goal

pub returns-in-11 : goal.returns-in-11
returns-in-11 c = rw c.in-11.is c.word.ensures

pub returns-in-12 : goal.returns-in-12
returns-in-12 c = rw c.in-12.is c.word-in-12.ensures

pub returns-in-13 : goal.returns-in-13
returns-in-13 c = rw c.in-13.is c.word-in-13.ensures

pub returns-in-14 : goal.returns-in-14
returns-in-14 c = rw c.in-14.is c.word-in-14.ensures

pub returns-in-15 : goal.returns-in-15
returns-in-15 c = rw c.in-15.is c.word-in-15.ensures

pub returns-in-16 : goal.returns-in-16
returns-in-16 c = rw c.in-16.is c.word-in-16.ensures

pub returns-in-17 : goal.returns-in-17
returns-in-17 c = rw c.in-17.is c.word-in-17.ensures

pub returns-in-18 : goal.returns-in-18
returns-in-18 c = rw c.in-18.is c.word-in-18.ensures

pub returns-in-19 : goal.returns-in-19
returns-in-19 c = rw c.in-19.is c.word-in-19.ensures

pub returns-in-20 : goal.returns-in-20
returns-in-20 c = rw c.in-20.is c.word-in-20.ensures

pub returns-in-21 : goal.returns-in-21
returns-in-21 c = rw c.in-21.is c.word-in-21.ensures

pub returns-in-22 : goal.returns-in-22
returns-in-22 c = rw c.in-22.is c.word-in-22.ensures

pub returns-in_default : goal.returns-in_default
returns-in_default c = rw (no_refusal c.args.why c.requires.0 (search rules)) c.word-in_default.ensures
