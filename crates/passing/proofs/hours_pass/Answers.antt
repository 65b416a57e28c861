-- `passing::hours_pass` meets its contract: whether the hours of the parties that were looked at pass. Assumes nothing.
use mathlib.Core.Path.{sym, ◌∙◌, ◌≡◌, subst}
use native.Mathlib.Omega.{arith}
use Prim.Native.Nat.{ℕ, ◌+◌}
use Rattle.std.proofs.lemmas.List.Edits.{get_or-between, length-between}
use Rattle.passing.specs.Passes.{hours_pass}
use Rattle.grid.proofs.EveryLaws.{every-none, every_turn}
use Rattle.passing.proofs.hours_pass.Goals as goal

pub loop-hours-init : goal.loop-hours-init
loop-hours-init c = (omega arith, sym (every-none _))

pub loop-hours-preserved : goal.loop-hours-preserved
loop-hours-preserved c =
    let list = c.args.list.now in
    let long = length-between list 3 (3 + c.args.parties) c.requires in
    let read = c.from.ensures ∙ get_or-between list 3 (3 + c.args.parties) c.loop-hours.hours-index 0 (omega (arith, c.loop-hours-test.true, long)) in (
      omega (arith, c.loop-hours-test.true, long),
      every_turn _ _ _ _ c.loop-hours.invariant.1 (rw (c.is_ok-pass.ensures.value, c.fault_of.ensures, read)),
    )

pub returns : goal.returns
returns c =
    let long = length-between c.args.list.now 3 (3 + c.args.parties) c.requires in
    let all : c.loop-hours.hours-index ≡ c.args.parties = omega (arith, c.loop-hours-test.false, long, c.loop-hours.invariant.0) in
    subst (λ (k : ℕ). c.loop-hours.pass ≡ hours_pass c.args.list.now k) all c.loop-hours.invariant.1
