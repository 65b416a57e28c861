-- `window_lists::refusals::refusal` meets its contract: one party after another is tested, then what is left.
use mathlib.Core.Path.{◌∙◌}
use Rattle.std.proofs.Common.{rules}
use native.Mathlib.Omega.{arith}
use Rattle.window_lists.proofs.WindowLaws.{place_none, place_more, refusal_none, refusal_next, refused, met_is}
use Rattle.window_lists.proofs.refusals.refusal.Goals as goal

pub loop-k-init : goal.loop-k-init
loop-k-init c = (omega arith, omega arith, place_none _, refusal_none _)

pub loop-k-preserved : goal.loop-k-preserved
loop-k-preserved c = let list = c.args.list.now in (
  omega arith,
  omega arith,
  c.next_place-place.ensures.0 ∙ place_more list _ _ c.loop-k.invariant.2,
  refusal_next list _ _ _ c.loop-k.invariant.2 c.loop-k.invariant.3 c.in_ok-party_refusal.ensures,
)

pub returns-in_err-party_refusal : goal.returns-in_err-party_refusal
returns-in_err-party_refusal c =
    rw (met_is c.from_residual.result _ c.from_residual.ensures.1)
    (refused c.args.list.now _ _ _ _ (search rules) c.loop-k.invariant.2 c.loop-k.invariant.3 c.in_err-party_refusal.ensures)
