use Rattle.std.proofs.Common.{ap, sym, ◌∙◌, None, Some, option_map}
use Rattle.abstract_paint.specs.Start.{start_numbered}
use Rattle.abstract_paint.proofs.LeastStart.{means_at}
use Rattle.abstract_paint.proofs.start.start_at.Goals as goal

pub returns-in-None-clause-meaning : goal.returns-in-None-clause-meaning
returns-in-None-clause-meaning c =
    means_at c.args.lead c.args.body.now c.args.offset None (ap (option_map (start_numbered c.args.offset)) (sym c.in-None.is ∙ c.least_number.ensures))

pub returns-in-Some-clause-meaning : goal.returns-in-Some-clause-meaning
returns-in-Some-clause-meaning c =
    means_at c.args.lead c.args.body.now c.args.offset (Some (start_numbered c.args.offset c.in-Some.n)) (ap (option_map (start_numbered c.args.offset)) (sym c.in-Some.is ∙ c.least_number.ensures))
