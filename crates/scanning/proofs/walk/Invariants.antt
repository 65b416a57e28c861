-- `scanning::walk` meets its contract: the invariant is `Running`: what the whole run comes to is what it comes to from here. Assumes
-- nothing.
use Rattle.scanning.proofs.Running.{Running}
use Rattle.scanning.proofs.walk.Given as goal

abbrev pub invariant-loop-k : goal.invariant-loop-k
invariant-loop-k g l = let source = g.S.Source in
    Running l.document source.read (source.held l.source) l.count l.initial.here l.k l.here
