-- `texts::meanings::telling` meets its contract: the text is written into room of its own, and lent from there.
use Prim.Native.Nat.{◌≤◌}
use native.Mathlib.Omega.{arith}
use lib.ListN.{length}
use Rattle.texts.specs.Meanings.{telling_of}
use Rattle.texts.proofs.LineWriting.{front_long, front_told}
use Rattle.texts.proofs.MeaningLaws.{text_fits}
use Rattle.texts.proofs.meanings.telling.Goals as goal

pub slice_bounds-line-end : goal.slice_bounds-line-end
slice_bounds-line-end c = let a = c.args in omega (arith, c.told-end.ensures.ends, text_fits a.what a.number)

pub slice_bounds-lend-end : goal.slice_bounds-lend-end
slice_bounds-lend-end c = front_long _ c.told-end.ensures ((let h0 : let a = c.args in length (telling_of a.what a.number) ≤ length c.blank-line.result = let a = c.args in omega (arith, text_fits a.what a.number, c.blank-line.ensures) in h0))

pub returns-clause-tells : goal.returns-clause-tells
returns-clause-tells c = (front_told _ c.told-end.ensures ((let h0 : let a = c.args in length (telling_of a.what a.number) ≤ length c.blank-line.result = let a = c.args in omega (arith, text_fits a.what a.number, c.blank-line.ensures) in h0)) _ c.args.text.now _ (c.lend.ensures.tells, c.lend.ensures.text_after)).0

pub returns-clause-text_after : goal.returns-clause-text_after
returns-clause-text_after c = (front_told _ c.told-end.ensures ((let h0 : let a = c.args in length (telling_of a.what a.number) ≤ length c.blank-line.result = let a = c.args in omega (arith, text_fits a.what a.number, c.blank-line.ensures) in h0)) _ c.args.text.now _ (c.lend.ensures.tells, c.lend.ensures.text_after)).1
