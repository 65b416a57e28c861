-- `draws::draw` meets its contract: what is in range is delivered, and passes the checks.
use mathlib.Core.Path.{sym, ◌∙◌}
use Rattle.draws.proofs.Passing.{delivered_answers}
use Rattle.draws.proofs.draw.Goals as goal

pub returns : goal.returns
returns c = let d = c.deliver.ensures in
    let both = delivered_answers c.args.seed c.args.growers c.args.pilots _ c.args.list.now _ _
    (sym c.both_in_range.ensures ∙ c.if-not-both_in_range.false)
    c.start.ensures
    d.value d.list_after in
    record { tells = both.0; list_after = both.1.0; passes = both.1.1 }
