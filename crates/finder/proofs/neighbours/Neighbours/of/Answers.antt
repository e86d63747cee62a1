use Rattle.std.proofs.Common.{subst, arith}
use Rattle.finder.specs.Loops.{AreNeighbours}
use Rattle.finder.proofs.neighbours.Neighbours.of.Goals as goal

pub loop-way-init : goal.loop-way-init
loop-way-init c = subst (λ n. AreNeighbours c.args.graph.now n c.loop-node.neighbours.lists.items) (omega arith) c.loop-node.invariant

pub loop-node-preserved : goal.loop-node-preserved
loop-node-preserved c = subst (λ n. AreNeighbours c.args.graph.now n c.loop-way.neighbours.lists.items) (omega arith) c.loop-way.invariant

pub returns : goal.returns
returns c = subst (λ n. AreNeighbours c.args.graph.now n c.loop-node.neighbours.lists.items) (omega arith) c.loop-node.invariant
