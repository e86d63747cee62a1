use Rattle.std.proofs.Common.{◌∙◌}
use Rattle.finder.proofs.Lists.{insert_new}
use Rattle.finder.proofs.discover.enter.Goals as goal

pub returns-in-Ok : goal.returns-in-Ok
returns-in-Ok c = c.in-Ok.ensures.keys ∙ insert_new c.args.order.now.keys c.args.node c.requires
