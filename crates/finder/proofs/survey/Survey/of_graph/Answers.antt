use Rattle.std.proofs.Common.{arith}
use Rattle.finder.proofs.Whole.{whole}
use Rattle.finder.proofs.survey.Survey.of_graph.Goals as goal

pub returns-clause-found : goal.returns-clause-found
returns-clause-found c = whole _ _ _ c.requires.found c.in_ok-order.ensures.reached c.in_ok-order.ensures.ranks (omega (arith, c.in_ok-order.ensures.few, c.args.graph.table.nodes))
